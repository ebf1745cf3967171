-- Document 01, "Logical lines": splice (`splice_logical`).
-- Assumes nothing.
use Rattle.std.specs.Prelude.{if◌then◌else◌, ℕ, zero, suc, ◌+◌, ◌-◌, ◌/◌, ◌%◌, max, ◌&&◌, List, [], ◌∷◌, ◌++◌, length, take, drop, replicate, ltb, eqb}
use Rattle.grid.specs.Screen.{Row, Screen, with_rows, move_to, editable, blank_row, line_row}
use Rattle.values.specs.Cursor.{at}
use Rattle.values.specs.declared.attr.Attr.{Attr}
use Rattle.line.specs.Line.{start_of, end_of}

-- the rows of n characters with the cursor at i: ceil(n / w), at least 1, plus 1 if n > 0, the cursor is at n and w divides n
unfoldable pub rows_for : ℕ → ℕ → ℕ → ℕ
rows_for w n i = max 1 ((n + w - 1) / w) + (if ltb 0 n && (eqb i n && eqb (n % w) 0) then 1 else 0)

-- the characters cs in k rows, all but the last flagged
unfoldable pub line_rows : ℕ → ℕ → Attr → List ℕ → List Row
line_rows zero w a cs = []
line_rows (suc k) w a cs = line_row w a (if eqb k 0 then 0 else 1) (take w cs) ∷ line_rows k w a (drop w cs)

-- of e editable rows, the rows b to d become `new`: above e rows, rows go from the bottom of those after, then from the top of those before;
-- short, blank rows are added at the bottom
unfoldable pub spliced_rows : List Row → ℕ → ℕ → ℕ → List Row → Row → List Row
spliced_rows rows e b d new blank =
    let n = length new in
    let before = drop (b + n - e) (take b rows) in
    let after = take (e - (b + n)) (drop (d + 1) (take e rows)) in
    let kept = before ++ (new ++ after) in
    kept ++ (replicate (e - length kept) blank ++ drop e rows)

-- the span under the cursor becomes cs, and the cursor stands at its index i in the new span
unfoldable pub splice : Screen → List ℕ → ℕ → Screen
splice s cs i =
    let w = s.head.width in
    let a = s.head.attr in
    let e = editable s.head.keys in
    let b = start_of s s.head.cursor.row in
    let d = end_of s s.head.cursor.row in
    let n = rows_for w (length cs) i in
    move_to (with_rows s (spliced_rows s.rows e b d (line_rows n w a cs) (blank_row w a))) (at (b - (b + n - e) + i / w) (i % w))

-- the screen without its rows b to d, the cursor in the first column of row b
unfoldable pub without_rows : Screen → ℕ → ℕ → Screen
without_rows s b d =
    move_to (with_rows s (spliced_rows s.rows (editable s.head.keys) b d [] (blank_row s.head.width s.head.attr))) (at b 0)
