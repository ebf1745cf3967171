-- A valid screen, as facts: what a `requires` states, since `omega` reads the fields of a record by itself.
-- `validb` is the test that the code computes; `proofs/Validity.antt` has that the facts follow from it.
-- Assumes nothing.
use Rattle.std.specs.Prelude.{ℕ, ◌/◌, ◌%◌, ◌≤◌, ◌<◌, ◌≡◌, true, List, length, get_or, take, drop}
use Rattle.grid.specs.Layout.{SIZE, VERSION, MASKS, SERIALS}
use Rattle.grid.specs.Screen.{Row, Screen, State, printable, editable, valid_row, valid_screen}
use Rattle.octets.specs.Test.{every, zerob}
use Rattle.octets.specs.Width.{IsWidth}
use Rattle.grid.specs.Record.{rows_of, touched_of, screen_of}
use Rattle.grid.specs.declared.head.Head.{Head}
use Rattle.grid.specs.declared.pair.Pair.{Pair}

-- what `valid_head` says
pub record HeadFacts (h : Head) : Type 0 where
  pub widths : IsWidth h.width
  pub width_from : 40 ≤ h.width
  pub width_to : h.width ≤ 80
  pub insert : h.insert ≤ 1
  pub cr : h.cr ≤ 1
  pub keys : h.keys ≤ 1
  pub edit_from : 24 ≤ editable h.keys
  pub edit_to : editable h.keys ≤ 25
  pub row : h.cursor.row < editable h.keys
  pub col : h.cursor.col < h.width
  pub foreground : h.attr.foreground < 16
  pub background : h.attr.background < 16

-- its numbers fit a byte each
pub record HeadFits (h : Head) : Type 0 where
  pub width : h.width < 256
  pub row : h.cursor.row < 256
  pub col : h.cursor.col < 256

-- n rows, each valid at the width w
pub record RowsFacts (w n : ℕ) (rows : List Row) : Type 0 where
  pub count : length rows ≡ n
  pub valid : every (valid_row w) rows ≡ true

-- what `valid_screen` says
pub record ScreenFacts (s : Screen) : Type 0 where
  pub head : HeadFacts s.head
  pub rows : RowsFacts s.head.width 25 s.rows

-- what `valid_row` says
pub record RowFacts (w : ℕ) (x : Row) : Type 0 where
  pub chars80 : length x.chars ≡ 80
  pub attrs80 : length x.attrs ≡ 80
  pub flag : x.flag ≤ 1
  pub inside : every printable (take w x.chars) ≡ true
  pub chars_rest : every zerob (drop w x.chars) ≡ true
  pub attrs_rest : every zerob (drop w x.attrs) ≡ true

-- four bytes hold either number
pub record PairFits (p : Pair) : Type 0 where
  pub sitting : p.sitting < SERIALS
  pub serial : p.serial < SERIALS

-- what a screen record can hold
pub record StateFacts (t : State) : Type 0 where
  pub pair : PairFits t.stamp.pair
  pub touched : t.stamp.touched < MASKS
  pub screen : valid_screen t.screen ≡ true

-- what `validb` says
pub record Valid (l : List ℕ) : Type 0 where
  pub size : length l ≡ SIZE
  pub length_high : get_or l 0 0 ≡ SIZE / 256
  pub length_low : get_or l 1 0 ≡ SIZE % 256
  pub version : get_or l 2 0 ≡ VERSION
  pub touched : touched_of l < MASKS
  pub screen : ScreenFacts (screen_of l)

-- the record l has the rows of a valid screen whose head is h: its own, or the one that a call will leave
pub record Known (l : List ℕ) (h : Head) : Type 0 where
  pub size : length l ≡ SIZE
  pub facts : HeadFacts h
  pub rows : RowsFacts h.width 25 (rows_of l)
