-- `editor::print::wrapped` meets its contract. What `&&` has left untried is false.
use Rattle.std.proofs.Common.{rules}
use Rattle.editor.proofs.PrintLaws.{wraps_col, wraps_row, wraps_flag, wraps_blank}
use Rattle.editor.proofs.print.wrapped.Goals as goal
use Rattle.editor.proofs.print.wrapped.Goals.{then-h-eq0, else-h-eq0, then-r-gt0, else-r-gt0}

pub returns-then-flag-eq1 : goal.returns-then-flag-eq1
returns-then-flag-eq1 c =
    elim c.if-r-gt0.branch [
      | then-r-gt0 w ↦ search (rules, wraps_blank)
      | else-r-gt0 w ↦ (cc)
    ]

pub returns-else-flag-eq1 : goal.returns-else-flag-eq1
returns-else-flag-eq1 c =
    elim c.if-r-gt0.branch [
      | then-r-gt0 w ↦ search (rules, wraps_flag)
      | else-r-gt0 w ↦ elim c.if-h-eq0.branch [ then-h-eq0 v ↦ search (rules, wraps_row) | else-h-eq0 v ↦ search (rules, wraps_col) ]
    ]
