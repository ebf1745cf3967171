-- The bytes of a screen record: how a record is read and written, and the test of its layout.
-- Assumes nothing.
use Rattle.std.specs.Prelude.{ℕ, ◌+◌, ◌*◌, ◌/◌, ◌%◌, ◌≡◌, Bool, ◌&&◌, List, [], ◌∷◌, ◌++◌, length, get_or, take, ltb, eqb}
use Rattle.grid.specs.Layout.{SIZE, VERSION, HEAD, PAIR, TOUCHED, FLAGS, CHARS, ATTRS, MASKS}
use Rattle.grid.specs.Pair.{pair_at, pair_bytes}
use Rattle.grid.specs.Screen.{Row, Screen, State, valid_screen}
use Rattle.values.specs.Cursor.{at}
use Rattle.values.specs.Attr.{attr_of, byte_of}
use Rattle.grid.specs.declared.head.Head.{Head}
use Rattle.grid.specs.declared.head.Stamp.{Stamp}
use Rattle.grid.specs.declared.pair.Pair.{Pair}
use Rattle.octets.specs.Part.{window}
use Rattle.octets.specs.Number.{bytes2, bytes4, four_at}
use Rattle.octets.specs.Table.{tabulate}

-- ---- reading

unfoldable pub row_of : List ℕ → ℕ → Row
row_of l r = record { flag = get_or l (FLAGS + r) 0; chars = window l (CHARS + 80 * r) 80; attrs = window l (ATTRS + 80 * r) 80 }

-- the row of a flag, and of characters and attributes that stand in another list
unfoldable pub row_from : ℕ → List ℕ → ℕ → ℕ → Row
row_from flag src chars attrs = record { flag = flag; chars = window src chars 80; attrs = window src attrs 80 }

unfoldable pub rows_of : List ℕ → List Row
rows_of l = tabulate (row_of l) 25

-- the head whose first byte stands at index i
unfoldable pub head_at : List ℕ → ℕ → Head
head_at l i = record {
  width = get_or l i 0;
  cursor = at (get_or l (i + 1) 0) (get_or l (i + 2) 0);
  insert = get_or l (i + 3) 0 % 2;
  cr = get_or l (i + 3) 0 / 2;
  keys = get_or l (i + 4) 0;
  attr = attr_of (get_or l (i + 5) 0);
}

unfoldable pub head_of : List ℕ → Head
head_of l = head_at l HEAD

-- the screen of a head and a record's rows
abbrev pub screen_with : Head → List ℕ → Screen
screen_with h l = record { head = h; rows = rows_of l }

abbrev pub screen_of : List ℕ → Screen
screen_of l = screen_with (head_of l) l

unfoldable pub pair_of : List ℕ → Pair
pair_of l = pair_at l PAIR

abbrev pub serial_of : List ℕ → ℕ
serial_of l = (pair_of l).serial

unfoldable pub touched_of : List ℕ → ℕ
touched_of l = four_at l TOUCHED

unfoldable pub stamp_of : List ℕ → Stamp
stamp_of l = record { pair = pair_of l; touched = touched_of l }

unfoldable pub read_state : List ℕ → State
read_state l = record { screen = screen_of l; stamp = stamp_of l }

-- ---- writing

-- document 02, (l): insert in the lowest bit, cr in the next one
unfoldable pub bits_byte : ℕ → ℕ → ℕ
bits_byte insert cr = cr % 2 * 2 + insert % 2

abbrev pub head_bytes : Head → List ℕ
head_bytes h = h.width ∷ h.cursor.row ∷ h.cursor.col ∷ bits_byte h.insert h.cr ∷ h.keys ∷ byte_of h.attr ∷ []

-- what stands before the rows
unfoldable pub front_bytes : Head → Stamp → List ℕ
front_bytes h stamp = bytes2 SIZE ++ (VERSION ∷ []) ++ head_bytes h ++ pair_bytes stamp.pair ++ bytes4 stamp.touched

unfoldable pub flag_bytes : List Row → List ℕ
flag_bytes [] = []
flag_bytes (x ∷ xs) = x.flag ∷ flag_bytes xs

-- a part of each row, one row after the other
unfoldable pub blocks : (Row → List ℕ) → List Row → List ℕ
blocks part [] = []
blocks part (x ∷ xs) = part x ++ blocks part xs

abbrev pub char_bytes : List Row → List ℕ
char_bytes rows = blocks (λ (x : Row). x.chars) rows

abbrev pub attr_bytes : List Row → List ℕ
attr_bytes rows = blocks (λ (x : Row). x.attrs) rows

unfoldable pub rows_bytes : List Row → List ℕ
rows_bytes rows = flag_bytes rows ++ (char_bytes rows ++ attr_bytes rows)

unfoldable pub state_bytes : State → List ℕ
state_bytes t = front_bytes t.screen.head t.stamp ++ rows_bytes t.screen.rows

-- ---- the layout

-- the length field, the version and the touched rows
unfoldable pub frontb : List ℕ → Bool
frontb l = eqb (get_or l 0 0) (SIZE / 256) && eqb (get_or l 1 0) (SIZE % 256) && eqb (get_or l 2 0) VERSION && ltb (touched_of l) MASKS

unfoldable pub validb : List ℕ → Bool
validb l = eqb (length l) SIZE && frontb l && valid_screen (screen_of l)

-- ---- what a function that changes rows leaves: a record of the same front, whose rows are R

pub record Becomes (l l' : List ℕ) (R : List Row) : Type 0 where
  pub size : length l' ≡ SIZE
  pub front : take FLAGS l' ≡ take FLAGS l
  pub rows : rows_of l' ≡ R

-- ---- what a function leaves that does a call's work on the record l: rows and head of the screen s, the head h handed back

pub record Leaves (s : Screen) (l l' : List ℕ) (h : Head) : Type 0 where
  pub becomes : Becomes l l' s.rows
  pub head : h ≡ s.head

-- the same where no row changes: the screen s becomes t
pub record Moves (t s : Screen) (h : Head) : Type 0 where
  pub rows : t.rows ≡ s.rows
  pub head : h ≡ t.head
