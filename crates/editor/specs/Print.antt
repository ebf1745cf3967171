-- Document 01, "Printing", with the scrolls counted, and of document 02, (l), what the checked print refuses.
-- Assumes nothing.
use Rattle.std.specs.Prelude.{if◌then◌else◌, ℕ, ◌+◌, ◌-◌, Bool, false, ◌&&◌, List, [], ◌∷◌, set, get_or, ltb, eqb}
use Rattle.grid.specs.Screen.{Screen, with_rows, move_to, row_at, put_cell, set_flag, scrolled, editable, blank_row, printable, is_empty, trim}
use Rattle.values.specs.Cursor.{at}
use Rattle.line.specs.Line.{flagged, row_text}

-- rows 1 to E - 1 move up with their flags, and row E - 1 is blank
unfoldable pub scroll : Screen → Screen
scroll s = with_rows s (scrolled s.rows (editable s.head.keys) (blank_row s.head.width s.head.attr))

-- a screen, and how many scrolls were made on the way to it
pub record Advanced : Type 0 where
  pub screen : Screen
  pub scrolls : ℕ

-- with none
abbrev pub still : Screen → Advanced
still s = record { screen = s; scrolls = 0 }

-- the next row's column 0, scrolling on row E - 1: the one rule that scrolls, and so the one that counts
unfoldable pub next_row : Screen → Advanced
next_row s =
    let r = s.head.cursor.row in
    if ltb (r + 1) (editable s.head.keys) then still (move_to s (at (r + 1) 0)) else record { screen = move_to (scroll s) (at r 0); scrolls = 1 }

-- the row holds only spaces
unfoldable pub row_is_blank : Screen → ℕ → Bool
row_is_blank s r = is_empty (trim (row_text s r))

-- in column 0 of a blank row, below a flagged one
unfoldable pub wrapped : Screen → Bool
wrapped s =
    let r = s.head.cursor.row in
    eqb s.head.cursor.col 0 && (ltb 0 r && (flagged s.rows (r - 1) && row_is_blank s r))

-- there only the flag above is cleared
unfoldable pub newline : Screen → Advanced
newline s = if wrapped s then still (with_rows s (set_flag s.rows (s.head.cursor.row - 1) 0)) else next_row s

-- a character at the cursor
unfoldable pub write_cell : Screen → ℕ → Screen
write_cell s ch =
    let r = s.head.cursor.row in
    with_rows s (set s.rows r (put_cell s.head.cursor.col ch s.head.attr (row_at s.rows r)))

-- writing column W - 1 flags the row and goes to the next
unfoldable pub put_char : Screen → ℕ → Advanced
put_char s ch =
    let r = s.head.cursor.row in
    let c = s.head.cursor.col in
    let t = write_cell s ch in
    if ltb (c + 1) s.head.width then still (move_to t (at r (c + 1))) else next_row (with_rows t (set_flag t.rows r 1))

-- one byte; cr says that the byte before it was 13
unfoldable pub print_byte : Bool → Screen → ℕ → Advanced
print_byte cr s b =
    if eqb b 13 then newline s
    else if eqb b 10 then (if cr then still s else newline s)
    else if printable b then put_char s b
    else still s

unfoldable pub print : Bool → Screen → List ℕ → Advanced
print cr s [] = still s
print cr s (b ∷ bs) =
    let p = print_byte cr s b in
    let q = print (eqb b 13) p.screen bs in
    record { screen = q.screen; scrolls = p.scrolls + q.scrolls }

-- no byte stands before the first of a call
abbrev pub print_bytes : Screen → List ℕ → Screen
print_bytes s bs = (print false s bs).screen

-- document 02, (l): "an input that begins with 10 while that bit is set". The bit is the head's, and not the cr of a print, which begins with each call anew
unfoldable pub splits : Screen → List ℕ → Bool
splits s bs = eqb (get_or bs 0 0) 10 && eqb s.head.cr 1
