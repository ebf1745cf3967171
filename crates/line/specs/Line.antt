-- Document 01, "Logical lines": the span of a row, the reading and the editing content.
-- Assumes nothing.
use Rattle.std.specs.Prelude.{if◌then◌else◌, ℕ, zero, suc, ◌+◌, ◌-◌, ◌*◌, min, max, Bool, List, [], ◌∷◌, ◌++◌, length, take, drop, replicate, eqb}
use Rattle.grid.specs.Screen.{Row, Screen, row_at, editable, trim}

-- the most characters of a logical line
abbrev pub MAX-LOGICAL : ℕ
MAX-LOGICAL = 255

-- ---- the span of a row, document 01's term

unfoldable pub flagged : List Row → ℕ → Bool
flagged rows r = eqb (row_at rows r).flag 1

-- up while the row above is flagged
unfoldable pub span_start : List Row → ℕ → ℕ
span_start rows zero = zero
span_start rows (suc r) = if flagged rows r then span_start rows r else suc r

-- down while the row is flagged and another follows, of which there are k
unfoldable pub span_end : List Row → ℕ → ℕ → ℕ
span_end rows zero r = r
span_end rows (suc k) r = if flagged rows r then span_end rows k (suc r) else r

-- the first row of the span of row r, and its last, which is editable
unfoldable pub start_of : Screen → ℕ → ℕ
start_of s r = span_start s.rows r

unfoldable pub end_of : Screen → ℕ → ℕ
end_of s r = span_end s.rows (editable s.head.keys - 1 - r) r

-- ---- the characters of rows

-- the characters of row r, inside the width
unfoldable pub row_text : Screen → ℕ → List ℕ
row_text s r = take s.head.width (row_at s.rows r).chars

-- the characters of rows, w of each
unfoldable pub joined : ℕ → List Row → List ℕ
joined w [] = []
joined w (x ∷ xs) = take w x.chars ++ joined w xs

-- the whole rows from row b up to row e, which is not among them
unfoldable pub whole_rows : Screen → ℕ → ℕ → List ℕ
whole_rows s b e = joined s.head.width (take (e - b) (drop b s.rows))

-- ---- reading (`read_stripped`)

-- whole rows, the last without trailing spaces, cut to 255, trailing spaces dropped
unfoldable pub reading : Screen → ℕ → ℕ → List ℕ
reading s b e = trim (take MAX-LOGICAL (whole_rows s b e ++ trim (row_text s e)))

-- the reading of the line under the cursor
unfoldable pub line_text : Screen → List ℕ
line_text s = reading s (start_of s s.head.cursor.row) (end_of s s.head.cursor.row)

-- ---- editing content (`content_and_cursor`)

-- how far the last row e of the line reaches: at least to the cursor column if the cursor is on it
unfoldable pub reach : Screen → ℕ → ℕ
reach s e = max (length (trim (row_text s e))) (if eqb s.head.cursor.row e then s.head.cursor.col else 0)

-- the cursor's place in its line: rows below the start × W + column, at most 255
unfoldable pub index : Screen → ℕ
index s = min MAX-LOGICAL ((s.head.cursor.row - start_of s s.head.cursor.row) * s.head.width + s.head.cursor.col)

-- the line under the cursor as it is edited, padded with spaces up to the index
unfoldable pub content : Screen → List ℕ
content s =
    let b = start_of s s.head.cursor.row in
    let e = end_of s s.head.cursor.row in
    let cs = take MAX-LOGICAL (whole_rows s b e ++ take (reach s e) (row_text s e)) in
    cs ++ replicate (index s - length cs) 32
