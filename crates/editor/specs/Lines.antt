-- Document 01, "Typing and line keys": the keys that take out, join, submit or end a logical line.
-- Assumes nothing.
use Rattle.std.specs.Prelude.{if◌then◌else◌, ◌+◌, ◌-◌, ◌*◌, Bool, ◌&&◌, length, leb, ltb, eqb}
use Rattle.grid.specs.Screen.{Screen, with_rows, move_to, set_flag, editable}
use Rattle.values.specs.Cursor.{at}
use Rattle.line.specs.Line.{MAX-LOGICAL, start_of, end_of, reading}
use Rattle.editor.specs.Print.{row_is_blank, next_row}
use Rattle.line.specs.Splice.{without_rows}

-- the span's rows go, later ones move up, blank rows fill below
unfoldable pub escape_line : Screen → Screen
escape_line s = without_rows s (start_of s s.head.cursor.row) (end_of s s.head.cursor.row)

-- on a span's last row, (rows to here) × W + the next line's read length exceeds 255
unfoldable pub too_long : Screen → Bool
too_long s =
    let r = s.head.cursor.row in
    eqb r (end_of s r) && ltb MAX-LOGICAL ((r - start_of s r + 1) * s.head.width + length (reading s (r + 1) (end_of s (r + 1))))

-- nothing on row E - 1, nor where the line would be too long
unfoldable pub ctrl_enter : Screen → Screen
ctrl_enter s =
    let r = s.head.cursor.row in
    if leb (editable s.head.keys) (r + 1) then s
    else if too_long s then s
    else move_to (with_rows s (set_flag s.rows r 1)) (at (r + 1) 0)

-- on an all-space last row of a longer span, cursor in its column 0
unfoldable pub on_blank_end : Screen → Bool
on_blank_end s =
    let r = s.head.cursor.row in
    let e = end_of s r in
    ltb (start_of s r) e && (row_is_blank s e && (eqb r e && eqb s.head.cursor.col 0))

-- there it only clears the flag above, else the cursor goes below the span; it answers the reading
unfoldable pub take_logical_line : Screen → Screen
take_logical_line s =
    let e = end_of s s.head.cursor.row in
    if on_blank_end s then with_rows s (set_flag s.rows (e - 1) 0) else (next_row (move_to s (at e 0))).screen

unfoldable pub break_line : Screen → Screen
break_line s = (next_row s).screen
