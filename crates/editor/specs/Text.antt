-- Document 01, "Texts and key strip": the texts. `logical_text` is the reading of the line under the cursor.
-- Assumes nothing.
use Rattle.std.specs.Prelude.{if◌then◌else◌, ℕ, Bool, ◌||◌, List, [], ◌∷◌, ◌++◌, take, eqb}
use Rattle.grid.specs.Screen.{Row, Screen, editable, is_empty, trim_by}

-- white space to Rust's `trim_end`
unfoldable pub is_white : ℕ → Bool
is_white c = eqb c 32 || (eqb c 133 || eqb c 160)

-- the characters of each row, w of them, right-trimmed
unfoldable pub row_texts : ℕ → List Row → List (List ℕ)
row_texts w [] = []
row_texts w (x ∷ xs) = trim_by is_white (take w x.chars) ∷ row_texts w xs

-- trailing empty rows dropped, joined by byte 10
unfoldable pub join_lines : List (List ℕ) → List ℕ
join_lines [] = []
join_lines (t ∷ ts) = if is_empty (join_lines ts) then t else t ++ (10 ∷ join_lines ts)

unfoldable pub snapshot : Screen → List ℕ
snapshot s = join_lines (row_texts s.head.width (take (editable s.head.keys) s.rows))
