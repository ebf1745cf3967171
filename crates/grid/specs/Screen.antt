-- Document 01, "The cell grid", as values: rows, the screen, what a record holds, the layout as one test, and the rows that differ.
-- `Head` and `Stamp` are the structs of `src/head.rt`; the head's `cr` is the bit of document 02, (l): a print ended with 13.
-- Assumes nothing.
use Rattle.std.specs.Prelude.{if◌then◌else◌, ℕ, ◌+◌, ◌-◌, ◌*◌, Bool, true, false, not, ◌&&◌, ◌||◌, List, [], ◌∷◌, ◌++◌, length, get_or, take, drop, set, replicate, leb, ltb, eqb}
use Rattle.values.specs.declared.attr.Attr.{Attr}
use Rattle.values.specs.declared.cursor.Cursor.{Cursor}
use Rattle.grid.specs.declared.head.Head.{Head}
use Rattle.grid.specs.declared.head.Stamp.{Stamp}
use Rattle.octets.specs.Test.{zerob, every}
use Rattle.octets.specs.Width.{widthb}
use Rattle.values.specs.Attr.{normal, byte_of}
use Rattle.values.specs.Cursor.{home}

-- 80 characters and 80 attributes, of which the screen's width is in use and the rest is zero;
-- flag 1: the next row goes on with this row's logical line
pub record Row : Type 0 where
  pub flag : ℕ
  pub chars : List ℕ
  pub attrs : List ℕ

-- what the mirror shows too: the record's bytes 3 to 8, and the rows
pub record Screen : Type 0 where
  pub head : Head
  pub rows : List Row

-- what a screen record holds: the screen, its sitting and serial, and the touched rows
pub record State : Type 0 where
  pub screen : Screen
  pub stamp : Stamp

-- ---- the head with one field changed

abbrev pub with_width : Head → ℕ → Head
with_width h w = record { width = w; cursor = h.cursor; insert = h.insert; cr = h.cr; keys = h.keys; attr = h.attr }

abbrev pub with_cursor : Head → Cursor → Head
with_cursor h c = record { width = h.width; cursor = c; insert = h.insert; cr = h.cr; keys = h.keys; attr = h.attr }

abbrev pub with_insert : Head → ℕ → Head
with_insert h v = record { width = h.width; cursor = h.cursor; insert = v; cr = h.cr; keys = h.keys; attr = h.attr }

abbrev pub with_cr : Head → ℕ → Head
with_cr h v = record { width = h.width; cursor = h.cursor; insert = h.insert; cr = v; keys = h.keys; attr = h.attr }

abbrev pub with_keys : Head → ℕ → Head
with_keys h v = record { width = h.width; cursor = h.cursor; insert = h.insert; cr = h.cr; keys = v; attr = h.attr }

abbrev pub with_attr : Head → Attr → Head
with_attr h a = record { width = h.width; cursor = h.cursor; insert = h.insert; cr = h.cr; keys = h.keys; attr = a }

-- E, the editable rows: 24 with keys on, else 25
unfoldable pub editable : ℕ → ℕ
editable keys = if eqb keys 1 then 24 else 25

-- ---- rows

-- w of the value v, and zero beyond the width
unfoldable pub padded : ℕ → ℕ → List ℕ
padded w v = replicate w v ++ replicate (80 - w) 0

-- w spaces of the attribute a, unflagged
unfoldable pub blank_row : ℕ → Attr → Row
blank_row w a = record { flag = 0; chars = padded w 32; attrs = padded w (byte_of a) }

-- the characters cs, spaces up to the width, and zero beyond it
unfoldable pub spaced : ℕ → List ℕ → List ℕ
spaced w cs = cs ++ (replicate (w - length cs) 32 ++ replicate (80 - w) 0)

unfoldable pub line_row : ℕ → Attr → ℕ → List ℕ → Row
line_row w a f cs = record { flag = f; chars = spaced w cs; attrs = padded w (byte_of a) }

unfoldable pub put_cell : ℕ → ℕ → Attr → Row → Row
put_cell c ch a x = record { flag = x.flag; chars = set x.chars c ch; attrs = set x.attrs c (byte_of a) }

unfoldable pub flag_row : ℕ → Row → Row
flag_row f x = record { flag = f; chars = x.chars; attrs = x.attrs }

unfoldable pub no_row : Row
no_row = record { flag = 0; chars = []; attrs = [] }

unfoldable pub row_at : List Row → ℕ → Row
row_at rows r = get_or rows r no_row

unfoldable pub set_flag : List Row → ℕ → ℕ → List Row
set_flag rows r f = set rows r (flag_row f (row_at rows r))

-- of e editable rows, rows 1 to e - 1 move up with their flags, and row e - 1 is blank
unfoldable pub scrolled : List Row → ℕ → Row → List Row
scrolled rows e blank = drop 1 (take e rows) ++ (blank ∷ drop e rows)

-- the same screen with other rows, with another head, and with the cursor elsewhere
unfoldable pub with_rows : Screen → List Row → Screen
with_rows s rows = record { head = s.head; rows = rows }

abbrev pub with_head : Screen → Head → Screen
with_head s h = record { head = h; rows = s.rows }

-- and with another bit of document 02, (l)
abbrev pub with_bit : Screen → ℕ → Screen
with_bit s v = with_head s (with_cr s.head v)

unfoldable pub move_to : Screen → Cursor → Screen
move_to s c = with_head s (with_cursor s.head c)

-- ---- a new screen: 40 gives 40, all else 80; in any sitting, at serial 0

unfoldable pub new_head : ℕ → Head
new_head w = record { width = if eqb w 40 then 40 else 80; cursor = home; insert = 0; cr = 0; keys = 1; attr = normal }

unfoldable pub new_screen : ℕ → Screen
new_screen w = record { head = new_head w; rows = replicate 25 (blank_row (new_head w).width normal) }

unfoldable pub new_state : ℕ → ℕ → State
new_state w sitting = record { screen = new_screen w; stamp = record { pair = record { sitting = sitting; serial = 0 }; touched = 0 } }

-- ---- trailing spaces

unfoldable pub is_empty : List ℕ → Bool
is_empty [] = true
is_empty (x ∷ xs) = false

-- without its trailing elements that pass the test
unfoldable pub trim_by : (ℕ → Bool) → List ℕ → List ℕ
trim_by p [] = []
trim_by p (x ∷ xs) = if p x && is_empty (trim_by p xs) then [] else x ∷ trim_by p xs

unfoldable pub is_space : ℕ → Bool
is_space c = eqb c 32

unfoldable pub trim : List ℕ → List ℕ
trim cs = trim_by is_space cs

-- ---- the layout

-- what a cell may hold: 27 or at least 32
unfoldable pub printable : ℕ → Bool
printable c = eqb c 27 || leb 32 c

-- an attribute of two nibbles, so any byte
unfoldable pub valid_attr : Attr → Bool
valid_attr a = ltb a.foreground 16 && ltb a.background 16

unfoldable pub valid_head : Head → Bool
valid_head h =
    widthb h.width && ltb h.cursor.row (editable h.keys) && ltb h.cursor.col h.width && leb h.insert 1 && leb h.cr 1
    && leb h.keys 1 && valid_attr h.attr

unfoldable pub valid_row : ℕ → Row → Bool
valid_row w x =
    eqb (length x.chars) 80 && eqb (length x.attrs) 80 && leb x.flag 1 && every printable (take w x.chars)
    && every zerob (drop w x.chars) && every zerob (drop w x.attrs)

unfoldable pub valid_screen : Screen → Bool
valid_screen s = valid_head s.head && eqb (length s.rows) 25 && every (valid_row s.head.width) s.rows

-- ---- the rows that differ

unfoldable pub same : List ℕ → List ℕ → Bool
same [] [] = true
same [] (y ∷ ys) = false
same (x ∷ xs) [] = false
same (x ∷ xs) (y ∷ ys) = eqb x y && same xs ys

unfoldable pub same_row : Row → Row → Bool
same_row x y = eqb x.flag y.flag && same x.chars y.chars && same x.attrs y.attrs

-- row 0 first
unfoldable pub differing : List Row → List Row → List Bool
differing [] new = []
differing (x ∷ old) [] = []
differing (x ∷ old) (y ∷ new) = not (same_row x y) ∷ differing old new

-- the sum of 2 ^ r over the rows r that are `true`
unfoldable pub number : List Bool → ℕ
number [] = 0
number (true ∷ bs) = 2 * number bs + 1
number (false ∷ bs) = 2 * number bs

-- touched bit r is set exactly when row r differs
unfoldable pub touched_rows : List Row → List Row → ℕ
touched_rows old new = number (differing old new)
