-- Document 01, "Typing and line keys": tab.
-- Assumes nothing.
use Rattle.std.specs.Prelude.{if◌then◌else◌, ℕ, zero, suc, ◌+◌, ◌-◌, ◌*◌, ◌/◌, Bool, ◌&&◌, ltb, eqb}
use Rattle.grid.specs.Screen.{Screen, move_to, editable}
use Rattle.values.specs.Cursor.{at}
use Rattle.values.specs.declared.cursor.Cursor.{Cursor}
use Rattle.editor.specs.Typing.{type_char}
use Rattle.grid.specs.declared.head.Head.{Head}

unfoldable pub same_cursor : Cursor → Cursor → Bool
same_cursor a b = eqb a.row b.row && eqb a.col b.col

-- k spaces typed, until one leaves the cursor still
unfoldable pub type_spaces : ℕ → Screen → Screen
type_spaces zero s = s
type_spaces (suc k) s =
    let t = type_char s 32 in
    let more = type_spaces k t in
    if same_cursor s.head.cursor t.head.cursor then t else more

-- the next multiple of 8 after column c
unfoldable pub next_stop : ℕ → ℕ
next_stop c = (c / 8 + 1) * 8

-- column t, at t = W the next row's column 0, from row E - 1 nothing
unfoldable pub tabbed : Head → Cursor
tabbed h =
    let r = h.cursor.row in
    let t = next_stop h.cursor.col in
    if ltb t h.width then at r t else if ltb (r + 1) (editable h.keys) then at (r + 1) 0 else h.cursor

-- with insert on, t - column spaces typed until one leaves the cursor still; else a move
unfoldable pub tab : Screen → Screen
tab s =
    let c = s.head.cursor.col in
    let typed = type_spaces (next_stop c - c) s in
    if eqb s.head.insert 1 then typed else move_to s (tabbed s.head)
