-- Document 01, "Motion, modes": the modes, and the calls that blank the screen.
-- Assumes nothing.
use Rattle.std.specs.Prelude.{ℕ, ◌++◌, drop, replicate}
use Rattle.grid.specs.Screen.{with_width, with_cursor, with_insert, with_keys, with_attr, with_head, Screen, with_rows, move_to, editable, blank_row}
use Rattle.values.specs.Cursor.{home, clamp}
use Rattle.values.specs.declared.attr.Attr.{Attr}

unfoldable pub clear : Screen → Screen
clear s =
    let e = editable s.head.keys in
    move_to (with_rows s (replicate e (blank_row s.head.width s.head.attr) ++ drop e s.rows)) home

-- all 25 rows are blank, the cursor is home, and insert is off
unfoldable pub set_width : ℕ → Screen → Screen
set_width w s = record { head = with_insert (with_cursor (with_width s.head w) home) 0; rows = replicate 25 (blank_row w s.head.attr) }

unfoldable pub set_insert : ℕ → Screen → Screen
set_insert v s = with_head s (with_insert s.head v)

unfoldable pub set_attr : Attr → Screen → Screen
set_attr a s = with_head s (with_attr s.head a)

-- it clamps the cursor too
unfoldable pub set_keys_on : ℕ → Screen → Screen
set_keys_on v s = with_head s (with_keys (with_cursor s.head (clamp s.head.width (editable v) s.head.cursor)) v)
