-- Document 01, "Motion, modes": the end of a line. The arrows and home are the cursor's own moves (`values/specs/Cursor`).
-- Assumes nothing.
use Rattle.std.specs.Prelude.{if◌then◌else◌, ◌+◌, ◌-◌, ◌/◌, ◌%◌, length, ltb}
use Rattle.grid.specs.Screen.{Screen, move_to, editable}
use Rattle.values.specs.Cursor.{at}
use Rattle.line.specs.Line.{start_of, line_text}

unfoldable pub end_of_line : Screen → Screen
end_of_line s =
    let w = s.head.width in
    let e = editable s.head.keys in
    let n = length (line_text s) in
    let r = start_of s s.head.cursor.row + n / w in
    move_to s (if ltb r e then at r (n % w) else at (e - 1) (w - 1))
