-- `line::logical::Line::head` meets its contract.
use Rattle.std.proofs.Common.{rules}
use Rattle.line.proofs.logical.Line.head.Goals as goal

pub returns : goal.returns
returns c = search rules
