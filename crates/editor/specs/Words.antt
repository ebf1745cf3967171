-- Document 01, "Motion, modes": words, runs of ASCII letters and digits over all editable cells, which are counted row by row.
-- Assumes nothing.
use Rattle.std.specs.Prelude.{if◌then◌else◌, ℕ, zero, suc, ◌+◌, ◌-◌, ◌*◌, ◌/◌, ◌%◌, min, Bool, ◌&&◌, ◌||◌, get_or, leb, eqb}
use Rattle.grid.specs.Screen.{Screen, move_to, row_at, editable}
use Rattle.values.specs.Cursor.{at}
use Rattle.values.specs.declared.cursor.Cursor.{Cursor}

unfoldable pub is_word : ℕ → Bool
is_word c = (leb 48 c && leb c 57) || ((leb 65 c && leb c 90) || (leb 97 c && leb c 122))

-- cell i is of a word
unfoldable pub word_at : Screen → ℕ → Bool
word_at s i = is_word (get_or (row_at s.rows (i / s.head.width)).chars (i % s.head.width) 0)

-- the cell under the cursor
unfoldable pub cell_of : Screen → ℕ
cell_of s = s.head.cursor.row * s.head.width + s.head.cursor.col

-- the place of cell i, in w columns
unfoldable pub place : ℕ → ℕ → Cursor
place w i = at (i / w) (i % w)

-- back from cell i over cells outside words, to cell 0 at most
unfoldable pub back_to_word : Screen → ℕ → ℕ
back_to_word s zero = zero
back_to_word s (suc i) = if word_at s (suc i) then suc i else back_to_word s i

-- back from cell i to that word's start
unfoldable pub word_start : Screen → ℕ → ℕ
word_start s zero = zero
word_start s (suc i) = if word_at s i then word_start s i else suc i

unfoldable pub word_left : Screen → Screen
word_left s = if eqb (cell_of s) 0 then s else move_to s (place s.head.width (word_start s (back_to_word s (cell_of s - 1))))

-- from cell i past the word it is in, where k cells are left
unfoldable pub past_word : Screen → ℕ → ℕ → ℕ
past_word s zero i = i
past_word s (suc k) i = if word_at s i then past_word s k (suc i) else i

-- from cell i past cells outside words, where k cells are left
unfoldable pub past_gap : Screen → ℕ → ℕ → ℕ
past_gap s zero i = i
past_gap s (suc k) i = if word_at s i then i else past_gap s k (suc i)

unfoldable pub word_right : Screen → Screen
word_right s =
    let cells = editable s.head.keys * s.head.width in
    let i = past_word s (cells - cell_of s) (cell_of s) in
    move_to s (place s.head.width (min (past_gap s (cells - i) i) (cells - 1)))
