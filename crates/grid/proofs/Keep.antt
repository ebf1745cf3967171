-- What keeps rows and screens valid: one law for each way to make a list of rows, a row, and a screen.
-- Assumes nothing.
use Prim.Native.Nat.{ℕ, suc, ◌+◌, ◌-◌, ◌≤◌, ◌<◌, min}
use mathlib.Core.Path.{◌≡◌, refl, sym}
use mathlib.Core.Bool.{true}
use mathlib.Core.List.{List, [], ◌∷◌, ◌++◌, append_assoc}
use mathlib.Core.Logic.{◌⊎◌, inl, inr}
use native.Mathlib.Omega.{arith}
use lib.ListN.{length, take, drop, set, replicate, length-append, length-take, length-drop, length-set, length-replicate}
use lib.Dec.{eqb}
use lib.Seq.{take_at, drop_at, drop-set-lt}
use Rattle.values.specs.declared.attr.Attr.{Attr}
use Rattle.grid.specs.Screen.{Row, Screen, printable, padded, spaced, blank_row, line_row, row_at, flag_row, set_flag, new_head, new_screen, valid_row}
use Rattle.values.specs.Attr.{byte_of, normal}
use Rattle.octets.specs.Test.{every, zerob}
use Rattle.grid.specs.Facts.{HeadFacts, RowFacts, RowsFacts, ScreenFacts}
use Rattle.octets.proofs.Bools.{cases, every_both, every_cons, every_take, every_drop, every_at, every_set, every_replicate}
use Rattle.grid.proofs.RowLaws.{length_padded, blank_is}
use Rattle.octets.proofs.WidthLaws.{width_from}
use Rattle.grid.proofs.Validity.{editable_from, head_is, row_facts, row_valid}

-- ---- lists of rows: the count goes along, so that in the end it is one `omega`

module _ {w n : ℕ} {rows : List Row} where
  pub rows_take : (k : ℕ) → RowsFacts w n rows → RowsFacts w (min k n) (take k rows)
  rows_take k f = record { count = simp length-take (omega arith); valid = every_take (valid_row w) k rows f.valid }

  pub rows_drop : (k : ℕ) → RowsFacts w n rows → RowsFacts w (n - k) (drop k rows)
  rows_drop k f = record { count = simp length-drop (omega arith); valid = every_drop (valid_row w) k rows f.valid }

  pub rows_cons : (x : Row) → valid_row w x ≡ true → RowsFacts w n rows → RowsFacts w (suc n) (x ∷ rows)
  rows_cons x v f = record { count = omega arith; valid = every_cons (valid_row w) x rows v f.valid }

  pub rows_set : (r : ℕ) (x : Row) → valid_row w x ≡ true → RowsFacts w n rows → RowsFacts w n (set rows r x)
  rows_set r x v f = record { count = simp length-set (omega arith); valid = every_set (valid_row w) rows r x f.valid v }

  pub rows_append : {m : ℕ} {more : List Row} → RowsFacts w n rows → RowsFacts w m more → RowsFacts w (n + m) (rows ++ more)
  rows_append {more = more} f g =
      record { count = simp length-append (omega arith); valid = every_both (valid_row w) rows more f.valid g.valid }

  pub rows_count : (m : ℕ) → n ≡ m → RowsFacts w n rows → RowsFacts w m rows
  rows_count m e f = record { count = omega arith; valid = f.valid }

  pub row_at_facts : (r : ℕ) → r < n → RowsFacts w n rows → RowFacts w (row_at rows r)
  unfolding row_at
  row_at_facts r h f = row_facts w _ (every_at (valid_row w) rows r _ f.valid (omega arith))

pub rows_replicate : (w n : ℕ) (x : Row) → valid_row w x ≡ true → RowsFacts w n (replicate n x)
rows_replicate w n x v = record { count = length-replicate n x; valid = every_replicate (valid_row w) n x v }

-- ---- rows

zeros : (n : ℕ) → every zerob (replicate n 0) ≡ true
unfolding zerob
zeros n = every_replicate zerob n 0 refl

pub spaces : (n : ℕ) → every printable (replicate n 32) ≡ true
unfolding printable
spaces n = every_replicate printable n 32 refl

padded_rest : (w v : ℕ) → every zerob (drop w (padded w v)) ≡ true
unfolding padded
padded_rest w v = rw (drop_at (replicate w v) (replicate (80 - w) 0) w (length-replicate w v)) (zeros (80 - w))

module _ (w : ℕ) (cs : List ℕ) (fits : length cs ≤ w) (most : w ≤ 80) where
  line : List ℕ
  line = cs ++ replicate (w - length cs) 32

  rest : List ℕ
  rest = replicate (80 - w) 0

  length_line : length line ≡ w
  unfolding line
  length_line = simp (length-append, length-replicate) (omega arith)

  spaced_is : spaced w cs ≡ line ++ rest
  unfolding spaced line rest
  spaced_is = sym (append_assoc cs (replicate (w - length cs) 32) (replicate (80 - w) 0))

  -- a row of the characters cs
  pub line_row_facts : (attr : Attr) (f : ℕ) → f ≤ 1 → every printable cs ≡ true → RowFacts w (line_row w attr f cs)
  unfolding line_row line rest
  line_row_facts attr f h v =
      record {
        chars80 = rw spaced_is (simp (length-append, length-replicate) (omega arith));
        attrs80 = length_padded w (byte_of attr) most;
        flag = h;
        inside = rw (spaced_is, take_at line rest w length_line) (every_both printable cs _ v (spaces (w - length cs)));
        chars_rest = rw (spaced_is, drop_at line rest w length_line) (zeros (80 - w));
        attrs_rest = padded_rest w (byte_of attr);
      }

pub blank_row_valid : (w : ℕ) (attr : Attr) → w ≤ 80 → valid_row w (blank_row w attr) ≡ true
unfolding every
blank_row_valid w attr h = rw blank_is at (row_valid w _ (line_row_facts w [] (omega arith) h attr 0 (omega arith) refl))

pub flag_row_facts : (w f : ℕ) (x : Row) → f ≤ 1 → RowFacts w x → RowFacts w (flag_row f x)
unfolding flag_row
flag_row_facts w f x h p =
    record {
      chars80 = p.chars80;
      attrs80 = p.attrs80;
      flag = h;
      inside = p.inside;
      chars_rest = p.chars_rest;
      attrs_rest = p.attrs_rest;
    }

-- ---- the editable rows are changed, and those beyond are as they were

pub record Edited (w e : ℕ) (old new : List Row) : Type 0 where
  pub rows : RowsFacts w 25 new
  pub beyond : drop e new ≡ drop e old

module _ {w e : ℕ} {old : List Row} (f : RowsFacts w 25 old) where
  pub edited_set : (r : ℕ) (x : Row) → r < e → valid_row w x ≡ true → Edited w e old (set old r x)
  edited_set r x h v = record { rows = rows_set r x v f; beyond = drop-set-lt e old r x h }

  pub edited_flag : (r n : ℕ) → r < e → e ≤ 25 → n ≤ 1 → Edited w e old (set_flag old r n)
  unfolding set_flag
  edited_flag r n h k l = edited_set r _ h (row_valid w _ (flag_row_facts w n _ l (row_at_facts r (omega arith) f)))

  pub edited_top : (top : List Row) → e ≤ 25 → RowsFacts w e top → Edited w e old (top ++ drop e old)
  edited_top top k g =
      record { rows = rows_count 25 (omega arith) (rows_append g (rows_drop e f)); beyond = drop_at top (drop e old) e g.count }

-- ---- screens

pub blank_of : (s : Screen) → ScreenFacts s → valid_row s.head.width (blank_row s.head.width s.head.attr) ≡ true
blank_of s f = blank_row_valid _ _ f.head.width_to

pub new_head_facts : (w : ℕ) → HeadFacts (new_head w)
unfolding new_head
new_head_facts w =
    let widths = cases (λ (v : ℕ). (v ≡ 40) ⊎ (v ≡ 80)) (eqb w 40) 40 80 (λ e. inl refl) (λ e. inr refl) in
    head_is _ widths (omega (arith, editable_from 1)) (omega (arith, width_from _ widths)) (omega arith) (omega arith) (omega arith) (omega arith)
    (omega arith)

pub new_screen_facts : (w : ℕ) → ScreenFacts (new_screen w)
unfolding new_screen
new_screen_facts w = record { head = new_head_facts w; rows = rows_replicate _ 25 _ (blank_row_valid _ normal (new_head_facts w).width_to) }
