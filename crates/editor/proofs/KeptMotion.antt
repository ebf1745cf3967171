-- Motion only moves the cursor and changes editable rows; the modes, which do more, keep a valid screen valid.
-- Assumes nothing.
use Prim.Native.Nat.{ℕ, zero, suc, ◌-◌, ◌*◌, ◌≤◌, ◌<◌}
use mathlib.Core.Path.{◌≡◌}
use mathlib.Core.Logic.{◌⊎◌}
use native.Mathlib.Nat.{mod-lt, div-lt_iff_lt-mul, mul-le-mul_right}
use native.Mathlib.Omega.{arith}
use borrow.Author.Tests.{ltb-true}
use Rattle.grid.specs.Screen.{Screen, with_rows, move_to, editable}
use Rattle.values.specs.Cursor.{home, clamp}
use Rattle.grid.specs.Facts.{ScreenFacts}
use Rattle.values.specs.declared.attr.Attr.{Attr}
use Rattle.values.specs.declared.cursor.Cursor.{Cursor}
use Rattle.octets.proofs.Bools.{cases, either}
use Rattle.grid.proofs.Validity.{head_is, editable_from}
use Rattle.octets.proofs.WidthLaws.{width_from, width_to}
use Rattle.values.proofs.CursorLaws.{Inside, clamp_inside}
use Rattle.grid.proofs.Keep.{rows_replicate, blank_row_valid, edited_top, blank_of}
use Rattle.editor.specs.Words.{place, cell_of, back_to_word, word_start, word_left, word_right, word_at}
use Rattle.editor.specs.Motion.{end_of_line}
use Rattle.editor.specs.Modes.{clear, set_width, set_insert, set_attr, set_keys_on}
use Rattle.line.proofs.Kept.{Kept, valid_kept}

-- ---- the place of a cell

pub place_inside : (w e i : ℕ) → 0 < w → i < e * w → Inside w e (place w i)
unfolding place
place_inside w e i h l = record { row = (div-lt_iff_lt-mul h).1 l; col = mod-lt i h }

-- ---- words

back_to_word_most : (s : Screen) (i : ℕ) → back_to_word s i ≤ i
unfolding back_to_word
back_to_word_most s zero = omega arith
back_to_word_most s (suc i) = let h = back_to_word_most s i in either (λ (x : ℕ). x ≤ suc i) (word_at s (suc i)) _ _ (omega arith) (omega arith)

word_start_most : (s : Screen) (i : ℕ) → word_start s i ≤ i
unfolding word_start
word_start_most s zero = omega arith
word_start_most s (suc i) = let h = word_start_most s i in either (λ (x : ℕ). x ≤ suc i) (word_at s i) _ _ (omega arith) (omega arith)

-- ---- the screen

module _ {P : Screen → Type 0} (k : Kept P) (s : Screen) (p : P s) where
  f : ScreenFacts s
  f = k.facts s p

  pub here : Inside s.head.width (editable s.head.keys) s.head.cursor
  here = omega (arith, f)

  pub moved : (c : Cursor) → Inside s.head.width (editable s.head.keys) c → P (move_to s c)
  moved c i = k.move s c p i.row i.col

  pub homed : P (move_to s home)
  homed = moved _ (omega (arith, f))

  pub clamped : (c : Cursor) → P (move_to s (clamp s.head.width (editable s.head.keys) c))
  clamped c = moved _ (clamp_inside _ _ c (omega (arith, f)) (omega (arith, f)))

  cell_lt : cell_of s < editable s.head.keys * s.head.width
  unfolding cell_of
  cell_lt = omega (arith, f, mul-le-mul_right s.head.width f.head.row)

  pub word_left_kept : P (word_left s)
  unfolding word_left
  word_left_kept =
      let l = cell_lt in
      let i : ℕ = back_to_word s (cell_of s - 1) in
      either P _ _ _ p (moved _ (place_inside _ _ _ (omega (arith, f)) (omega (arith, back_to_word_most s (cell_of s - 1), word_start_most s i))))

  pub word_right_kept : P (word_right s)
  unfolding word_right
  word_right_kept = let l = cell_lt in moved _ (place_inside _ _ _ (omega (arith, f)) (omega arith))

  pub end_of_line_kept : P (end_of_line s)
  unfolding end_of_line
  end_of_line_kept =
      moved _
      (cases (Inside s.head.width (editable s.head.keys)) _ _ _ (λ e. record { row = ltb-true _ _ e; col = mod-lt _ (omega (arith, f)) })
      (λ e. omega (arith, f)))

  pub cleared : P (clear s)
  unfolding clear with_rows
  cleared =
      let e : ℕ = editable s.head.keys in
      k.move _ _ (k.edit s _ p (edited_top f.rows _ f.head.edit_to (rows_replicate _ e _ (blank_of s f)))) (omega (arith, f)) (omega (arith, f))

-- ---- the modes

-- P is kept, and by insert and the attribute too
pub record KeptModes (P : Screen → Type 0) : Type 0 where
  pub kept : Kept P
  pub insert : (s : Screen) (v : ℕ) → P s → v ≤ 1 → P (set_insert v s)
  pub attr : (s : Screen) (a : Attr) → P s → a.foreground < 16 → a.background < 16 → P (set_attr a s)

-- a valid screen stays valid
pub valid_modes : KeptModes ScreenFacts
unfolding set_insert set_attr
valid_modes =
    record {
      kept = valid_kept;
      insert = λ s v f h.
          record { head = head_is _ f.head.widths f.head.row f.head.col h f.head.cr f.head.keys f.head.foreground f.head.background; rows = f.rows };
      attr = λ s a f h l. record { head = head_is _ f.head.widths f.head.row f.head.col f.head.insert f.head.cr f.head.keys h l; rows = f.rows };
    }

-- and in the two modes that change more than the editable rows
module _ (s : Screen) (f : ScreenFacts s) where
  pub width_set : (w : ℕ) → (w ≡ 40) ⊎ (w ≡ 80) → ScreenFacts (set_width w s)
  unfolding set_width
  width_set w c =
      record {
        head = head_is _ c (omega arith) (omega (arith, width_from w c)) (omega arith) f.head.cr f.head.keys f.head.foreground f.head.background;
        rows = rows_replicate w 25 _ (blank_row_valid w _ (width_to w c));
      }

  pub keys_set : (v : ℕ) → v ≤ 1 → ScreenFacts (set_keys_on v s)
  unfolding set_keys_on
  keys_set v h =
      let i = clamp_inside s.head.width (editable v) s.head.cursor (omega arith) (omega (arith, editable_from v)) in
      record {
        head = head_is _ f.head.widths i.row i.col f.head.insert f.head.cr h f.head.foreground f.head.background;
        rows = f.rows;
      }
