-- The cursor, which is the struct of `src/cursor.rt`, and its moves.
-- Document 01, "Motion, modes": where the cursor goes in w columns and e rows. Arrows stop at the edges; left and right pass over row ends.
-- Assumes nothing.
use Rattle.std.specs.Prelude.{if◌then◌else◌, ℕ, ◌+◌, ◌-◌, min, ltb}
use Rattle.values.specs.declared.cursor.Cursor.{Cursor}

abbrev pub at : ℕ → ℕ → Cursor
at r c = record { row = r; col = c }

abbrev pub home : Cursor
home = at 0 0

-- ---- the moves

unfoldable pub left : ℕ → Cursor → Cursor
left w c = if ltb 0 c.col then at c.row (c.col - 1) else if ltb 0 c.row then at (c.row - 1) (w - 1) else c

unfoldable pub right : ℕ → ℕ → Cursor → Cursor
right w e c = if ltb (c.col + 1) w then at c.row (c.col + 1) else if ltb (c.row + 1) e then at (c.row + 1) 0 else c

unfoldable pub up : Cursor → Cursor
up c = if ltb 0 c.row then at (c.row - 1) c.col else c

unfoldable pub down : ℕ → Cursor → Cursor
down e c = if ltb (c.row + 1) e then at (c.row + 1) c.col else c

-- to the nearest place
unfoldable pub clamp : ℕ → ℕ → Cursor → Cursor
clamp w e c = at (min c.row (e - 1)) (min c.col (w - 1))
