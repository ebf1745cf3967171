-- Document 01, "The cell grid": when exactly a screen record is valid. The conditions are written out here byte by byte, apart from the test `validb` of
-- `specs/Record.antt`, by which a call finds that one is broken. `proofs/Conditions.antt` has that the two agree.
-- Assumes nothing.
use Rattle.std.specs.Prelude.{ℕ, ◌+◌, ◌*◌, ◌/◌, ◌%◌, ◌≤◌, ◌<◌, ◌≡◌, List, ◌⊎◌, length, get_or}
use Rattle.octets.specs.Width.{IsWidth}
use Rattle.grid.specs.Layout.{SIZE, VERSION, FLAGS, CHARS, ATTRS, MASKS}
use Rattle.grid.specs.Screen.{editable}
use Rattle.grid.specs.Record.{head_of, touched_of}
use Rattle.grid.specs.declared.head.Head.{Head}

-- "cursor row below E, column below W, .. switches 0 or 1", and by document 02, (l), byte 6 "now 0 to 3"; an attribute is two nibbles, so any byte
pub record ValidHead (h : Head) : Type 0 where
  pub width : IsWidth h.width
  pub row : h.cursor.row < editable h.keys
  pub col : h.cursor.col < h.width
  pub insert : h.insert ≤ 1
  -- what stands above the lowest bit of byte 6, so that at most 1 says 0 to 3
  pub cr : h.cr ≤ 1
  pub keys : h.keys ≤ 1
  pub foreground : h.attr.foreground < 16
  pub background : h.attr.background < 16

-- "flags .. 0 or 1, .. characters inside W 27 or at least 32, all bytes beyond W zero": of the row whose flag stands at index f of l, whose 80 characters
-- stand from index c on and whose 80 attributes from index a on, where W is w
pub record ValidRow (w : ℕ) (l : List ℕ) (f c a : ℕ) : Type 0 where
  pub flag : get_or l f 0 ≤ 1
  pub inside : (i : ℕ) → i < w → (get_or l (c + i) 0 ≡ 27) ⊎ (32 ≤ get_or l (c + i) 0)
  pub chars_beyond : (i : ℕ) → w ≤ i → i < 80 → get_or l (c + i) 0 ≡ 0
  pub attrs_beyond : (i : ℕ) → w ≤ i → i < 80 → get_or l (a + i) 0 ≡ 0

pub record ValidRecord (l : List ℕ) : Type 0 where
  pub size : length l ≡ SIZE
  pub length_high : get_or l 0 0 ≡ SIZE / 256
  pub length_low : get_or l 1 0 ≡ SIZE % 256
  pub version : get_or l 2 0 ≡ VERSION
  -- "touched below 2^25"
  pub touched : touched_of l < MASKS
  pub head : ValidHead (head_of l)
  pub rows : (r : ℕ) → r < 25 → ValidRow (head_of l).width l (FLAGS + r) (CHARS + 80 * r) (ATTRS + 80 * r)
