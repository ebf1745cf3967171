-- The cells of a screen counted row by row, as the code has them: contracts of `words` cite these, and no rule does.
-- Assumes nothing.
use Rattle.std.specs.Prelude.{ℕ, ◌+◌, ◌*◌, ◌≤◌, ◌<◌, ◌≡◌}
use Rattle.grid.specs.Screen.{editable}
use Rattle.grid.specs.declared.head.Head.{Head}

-- n is the cell under the cursor of h, counted row by row
pub record Flat (h : Head) (n : ℕ) : Type 0 where
  pub is : n ≡ h.cursor.row * h.width + h.cursor.col
  pub inside : n < editable h.keys * h.width
  pub below : n < 25 * h.width

-- n is the number of editable cells
pub record Cells (h : Head) (n : ℕ) : Type 0 where
  pub is : n ≡ editable h.keys * h.width
  pub some : 0 < n
  pub most : n ≤ 25 * h.width
