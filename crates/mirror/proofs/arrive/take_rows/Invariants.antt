-- The loops of `mirror::arrive::take_rows`.
use mathlib.Core.List.{List, map}
use Prim.Native.Nat.{ℕ}
use Rattle.report.specs.Report.{row_in}
use Rattle.mirror.proofs.ArriveRows.{Replaced}
use Rattle.mirror.proofs.arrive.take_rows.Given as goal

abbrev pub invariant-loop-r : goal.invariant-loop-r
invariant-loop-r l = Replaced (map (λ (row : List ℕ). row_in row 0) l.carried) l.mask l.r l.n l.initial.rec l.rec
