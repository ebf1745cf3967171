-- The loops of `grid::row::blank_rows`.
use Prim.Native.Nat.{◌≤◌}
use Rattle.grid.specs.Screen.{blank_row}
use Rattle.grid.specs.Record.{Becomes}
use Rattle.grid.proofs.RowScroll.{blank_to}
use Rattle.grid.proofs.row.blank_rows.Given as goal

abbrev pub invariant-loop-r : goal.invariant-loop-r
invariant-loop-r l = (l.r ≤ l.n) × Becomes l.initial.rec l.rec (blank_to l.initial.rec (blank_row l.blank.width l.blank.attr) l.r)
