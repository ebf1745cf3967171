-- `line::logical::Line::under_cursor` meets its contract.
use Rattle.std.proofs.Common.{rules}
use Rattle.line.proofs.logical.Line.under_cursor.Goals as goal

pub invariant_of-result : goal.invariant_of-result
invariant_of-result c = search rules
