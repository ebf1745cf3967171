-- `finish`: the end of a changing call.
-- Assumes nothing.
use Prim.Native.Nat.{ℕ}
use mathlib.Core.Path.{◌≡◌}
use Rattle.grid.specs.Screen.{with_cr}
use Rattle.grid.specs.Facts.{HeadFits}
use Rattle.grid.specs.declared.head.Head.{Head}

-- g is the head h with the bit v
pub bit_fits : (h g : Head) (v : ℕ) → g ≡ with_cr h v → HeadFits h → HeadFits g
bit_fits h g v e f = rw e (record { width = f.width; row = f.row; col = f.col })
