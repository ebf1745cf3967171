-- `line::splice::remove_line` meets its contract.
use Rattle.std.proofs.Common.{rules}
use Rattle.line.proofs.SpliceLaws.{line_removed}
use Rattle.line.proofs.splice.remove_line.Goals as goal

pub returns : goal.returns
returns c = search (rules, line_removed)
