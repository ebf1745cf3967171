-- Typing and the line keys only move the cursor and change editable rows.
-- Assumes nothing.
use lib.Dec.{ltb, leb, eqb}
use Prim.Native.Nat.{ℕ, zero, suc, ◌+◌, ◌-◌, ◌≤◌, ◌<◌}
use mathlib.Core.Path.{◌≡◌, refl}
use mathlib.Core.Bool.{true}
use mathlib.Core.List.{List, [], ◌∷◌, ◌++◌}
use native.Mathlib.Omega.{arith}
use lib.ListN.{length, take, drop, set, length-append, length-take, length-drop, length-set}
use borrow.Author.Tests.{ltb-true, leb-false}
use Rattle.grid.specs.Screen.{Screen, with_rows, editable, printable, move_to}
use Rattle.octets.specs.Test.{every}
use Rattle.grid.specs.Facts.{ScreenFacts}
use Rattle.octets.proofs.Bools.{cases, either, every_both, every_cons, every_take, every_drop, every_set}
use Rattle.grid.proofs.Keep.{edited_flag}
use Rattle.line.specs.Line.{MAX-LOGICAL, start_of, content, index}
use Rattle.editor.specs.Typing.{type_char, type_within, type_limited, delete_char, backspace, erase_to_end}
use Rattle.editor.specs.Lines.{escape_line, ctrl_enter, take_logical_line, break_line, too_long}
use Rattle.editor.specs.Tab
use Rattle.editor.specs.Tab.{type_spaces, next_stop, tab}
use Rattle.line.proofs.Kept.{Kept}
use Rattle.line.proofs.KeptLine.{SpanFacts, span, TextFacts, content_text, respliced, spliced}
use Rattle.editor.proofs.KeptPrint.{next_row_kept}
use Rattle.line.specs.Splice.{without_rows}
use Rattle.values.specs.declared.cursor.Cursor.{Cursor}

-- ---- the texts that are spliced

module _ {cs : List ℕ} {i : ℕ} (t : TextFacts cs i) where
  pub text_insert : (ch : ℕ) → printable ch ≡ true → length cs < MAX-LOGICAL → TextFacts (take i cs ++ (ch ∷ drop i cs)) (i + 1)
  text_insert ch v h =
      record {
        chars = every_both printable _ _ (every_take printable i cs t.chars) (every_cons printable ch _ v (every_drop printable i cs t.chars));
        fits = simp (length-append, length-take, length-drop) (omega arith);
        within = simp (length-append, length-take, length-drop) (omega arith);
      }

  pub text_set : (ch : ℕ) → printable ch ≡ true → i < length cs → TextFacts (set cs i ch) (i + 1)
  text_set ch v h =
      record { chars = every_set printable cs i ch t.chars v; fits = simp length-set (omega arith); within = simp length-set (omega arith) }

  pub text_add : (ch : ℕ) → printable ch ≡ true → length cs < MAX-LOGICAL → TextFacts (cs ++ (ch ∷ [])) (i + 1)
  unfolding every
  text_add ch v h =
      record {
        chars = every_both printable cs _ t.chars (every_cons printable ch [] v refl);
        fits = simp length-append (omega arith);
        within = simp length-append (omega arith);
      }

  -- what stands from j on, i being the cursor's new place, goes as far as k
  pub text_cut : (j k : ℕ) → j ≤ k → j ≤ i → TextFacts (take j cs ++ drop k cs) j
  text_cut j k h l =
      record {
        chars = every_both printable _ _ (every_take printable j cs t.chars) (every_drop printable k cs t.chars);
        fits = simp (length-append, length-take, length-drop) (omega arith);
        within = simp (length-append, length-take, length-drop) (omega arith);
      }

  pub text_keep : TextFacts (take i cs) i
  text_keep = record { chars = every_take printable i cs t.chars; fits = simp length-take (omega arith); within = simp length-take (omega arith) }

-- ---- typing

module _ {P : Screen → Type 0} (k : Kept P) where
  within_kept : (limit : ℕ) (s : Screen) (cs : List ℕ) (i ch : ℕ) → limit ≤ MAX-LOGICAL → P s → TextFacts cs i → printable ch ≡ true → P (type_within limit s cs i ch)
  unfolding type_within
  within_kept limit s cs i ch most p t v =
      either P _ _ _
      (cases P _ _ _ (λ e. p) (λ e. spliced k s _ _ p (text_insert t ch v (omega (arith, leb-false limit (length cs) e)))))
      (cases P _ _ _ (λ e. spliced k s _ _ p (text_set t ch v (ltb-true _ _ e)))
      (λ e. cases P _ _ _ (λ e. p) (λ e. spliced k s _ _ p (text_add t ch v (omega (arith, leb-false limit (length cs) e))))))

  pub type_limited_kept : (limit : ℕ) (s : Screen) (ch : ℕ) → limit ≤ MAX-LOGICAL → P s → P (type_limited limit s ch)
  unfolding type_limited
  type_limited_kept limit s ch most p = cases P _ _ _ (λ v. within_kept limit s _ _ ch most p (content_text s (k.facts s p)) v) (λ e. p)

  -- which at MAX-LOGICAL is typing
  pub type_char_kept : (s : Screen) (ch : ℕ) → P s → P (type_char s ch)
  unfolding type_char
  type_char_kept s ch p = type_limited_kept MAX-LOGICAL s ch (omega arith) p

  type_spaces_kept : (n : ℕ) (s : Screen) → P s → P (type_spaces n s)
  unfolding type_spaces
  type_spaces_kept zero s p = p
  type_spaces_kept (suc n) s p = let t = type_char_kept s 32 p in either P _ _ _ t (type_spaces_kept n (type_char s 32) t)

  module _ (s : Screen) (p : P s) where
    text : TextFacts (content s) (index s)
    text = content_text s (k.facts s p)

    pub delete_char_kept : P (delete_char s)
    unfolding delete_char
    delete_char_kept = either P _ _ _ (spliced k s _ _ p (text_cut text (index s) (index s + 1) (omega arith) (omega arith))) p

    pub back_space : P (backspace s)
    unfolding backspace
    back_space = either P _ _ _ delete_char_kept (spliced k s _ _ p (text_cut text (index s - 1) (index s) (omega arith) (omega arith)))

    pub erase_to_end_kept : P (erase_to_end s)
    unfolding erase_to_end
    erase_to_end_kept = spliced k s _ _ p (text_keep text)

    -- ---- line keys

    f : ScreenFacts s
    f = k.facts s p

    under : SpanFacts s s.head.cursor.row
    under = span s s.head.cursor.row f.head.row

    pub escape_line_kept : P (escape_line s)
    unfolding escape_line without_rows with_rows every
    escape_line_kept =
        let b : start_of s s.head.cursor.row < editable s.head.keys = omega (arith, under, f) in
        k.move _ _ (k.edit s _ p (respliced s _ _ 0 [] f (record { count = refl; valid = refl }) b (omega arith))) b (omega (arith, f))

    pub tabbed : P (tab s)
    unfolding tab Tab.tabbed
    tabbed =
        either P (eqb s.head.insert 1) _ _ (type_spaces_kept _ s p)
        (cases (λ (c : Cursor). P (move_to s c)) (ltb (next_stop s.head.cursor.col) s.head.width) _ _ (λ e. k.move s _ p f.head.row (ltb-true _ _ e))
        (λ e.
        cases (λ (c : Cursor). P (move_to s c)) (ltb (s.head.cursor.row + 1) (editable s.head.keys)) _ _ (λ e. k.move s _ p (ltb-true _ _ e) (omega (arith, f)))
        (λ e. k.move s _ p f.head.row f.head.col)))

    pub ctrl_enter_kept : P (ctrl_enter s)
    unfolding ctrl_enter with_rows
    ctrl_enter_kept =
        cases P (leb (editable s.head.keys) (s.head.cursor.row + 1)) _ _ (λ e. p)
        (λ e. either P (too_long s) _ _ p
        (k.move _ _ (k.edit s _ p (edited_flag f.rows _ 1 f.head.row f.head.edit_to (omega arith))) (leb-false _ _ e) (omega (arith, f))))

    pub take_line : P (take_logical_line s)
    unfolding take_logical_line
    take_line =
        either P _ _ _ (k.edit s _ p (edited_flag f.rows _ 0 (omega (arith, under)) f.head.edit_to (omega arith)))
        (next_row_kept k _ (k.move s _ p (omega (arith, under)) (omega (arith, f))))

    pub break_line_kept : P (break_line s)
    unfolding break_line
    break_line_kept = next_row_kept k s p
