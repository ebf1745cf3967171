-- The loops of `grid::touched::changed_rows`.
use mathlib.Core.Path.{◌≡◌}
use Rattle.grid.proofs.TouchedLaws.{changed_to}
use Rattle.grid.proofs.touched.changed_rows.Given as goal

abbrev pub invariant-loop-r : goal.invariant-loop-r
invariant-loop-r l = l.mask ≡ changed_to l.old l.new l.r
