-- Words: the test of a cell, the four loops over cells, and the two moves.
-- A loop's law says that what is left to do from cell i gives the answer, so that each turn opens its definition once.
-- Assumes nothing.
use Prim.Native.Nat.{ℕ, zero, suc, ◌+◌, ◌-◌, ◌*◌, ◌/◌, ◌%◌, ◌≤◌, ◌<◌}
use mathlib.Core.Path.{◌≡◌, refl, sym, ap, ◌∙◌}
use mathlib.Core.Bool.{Bool, true, false, ◌&&◌}
use Rattle.std.specs.Char.{is_ascii_alphanumeric}
use Rattle.std.proofs.Math.Bool.{or_assoc}
use mathlib.Core.List.{List, []}
use native.Mathlib.Nat.{mul-le-mul_right, div-lt_iff_lt-mul, mod-lt}
use native.Mathlib.Omega.{arith}
use lib.Dec.{leb}
use lib.ListN.{get_or}
use Rattle.grid.specs.Screen.{Screen, Row, editable}
use Rattle.grid.specs.Record.{row_of, screen_with}
use Rattle.grid.specs.Facts.{HeadFacts, Known}
use Rattle.grid.specs.declared.head.Head.{Head}
use Rattle.octets.proofs.Bools.{either}
use Rattle.grid.proofs.ScreenLaws.{head_seen, row_seen}
use Rattle.moves.specs.Cells.{Flat, Cells}
use Rattle.editor.specs.Words.{is_word, word_at, cell_of, back_to_word, word_start, past_word, past_gap}

-- ---- `is_word`

pub word_is : (c : ℕ) (t : Bool) → t ≡ is_ascii_alphanumeric c → t ≡ is_word c
unfolding is_word
word_is c t e = e ∙ or_assoc (leb 48 c && leb c 57) _ _

-- ---- cells

module _ (h : Head) (f : HeadFacts h) where
  -- the rows above the cursor, and its own
  pub rows_most : h.cursor.row * h.width + h.width ≤ editable h.keys * h.width
  rows_most = omega (arith, mul-le-mul_right {m = suc h.cursor.row} {n = editable h.keys} h.width f.row)

  pub cells_to : editable h.keys * h.width ≤ 25 * h.width
  cells_to = mul-le-mul_right h.width f.edit_to

-- ---- `word_at`: the screen s is read from the record l with the head h

module _ (l : List ℕ) (h : Head) (s : Screen) (is : screen_with h l ≡ s) (known : Known l h) (i : ℕ) (below : i < 25 * s.head.width) where
  inside : i < 25 * h.width
  inside = rw (head_seen l h s is) below

  pub cell_row : i / h.width < 25
  cell_row = (div-lt_iff_lt-mul {k = h.width} {x = i} {y = 25} (omega arith)).1 inside

  pub cell_col : i % h.width < 80
  cell_col = omega (arith, mod-lt i {m = h.width} (omega arith))

  pub word_read : (x : Row) (ch : ℕ) (t : Bool) → x ≡ row_of l (i / h.width) → ch ≡ get_or x.chars (i % h.width) 0 → t ≡ is_word ch → t ≡ word_at s i
  unfolding word_at
  word_read x ch t ix ic it = rw (← (head_seen l h s is), ← (row_seen l h s is x (i / h.width) cell_row ix)) (it ∙ ap is_word ic)

-- ---- the searches: what is found is the first cell on the way at which the rule stops

-- k is an index: std's facts on the numbers of a range are read at `get_or` of them
abbrev pub Index : ℕ → Type 0
Index k = (xs : List ℕ) × (m : ℕ) × (m ≡ get_or xs k 0)

pub index : (k : ℕ) → Index k
index k = ([], _, refl)

module _ (s : Screen) where
  pub back_found : (at i : ℕ) → i ≤ at → (0 < i → word_at s (i - 1 + 1) ≡ true) → ((k : ℕ) → Index k → i ≤ k → k < at → word_at s (k + 1) ≡ false)
      → i ≡ back_to_word s at
  unfolding back_to_word
  back_found zero i h stop none = omega arith
  back_found (suc n) i h stop none =
      let last : n + 1 ≡ suc n = omega arith in
      let on : i ≤ n → i ≡ back_to_word s n = λ k. back_found n i k stop (λ j x a b. none j x a (omega arith)) in
      let no : i ≤ n → word_at s (suc n) ≡ false = λ k. ap (word_at s) (sym last) ∙ none n (index n) k (omega arith) in
      let yes : i ≡ suc n → word_at s (suc n) ≡ true = λ e. ap (word_at s) (omega (arith, e)) ∙ stop (omega (arith, e)) in
      grind (arith, on, no, yes)

  pub start_found : (at i : ℕ) → i ≤ at → (0 < i → word_at s (i - 1) ≡ false) → ((k : ℕ) → Index k → i ≤ k → k < at → word_at s k ≡ true)
      → i ≡ word_start s at
  unfolding word_start
  start_found zero i h stop none = omega arith
  start_found (suc n) i h stop none =
      let same : suc n - 1 ≡ n = omega arith in
      let on : i ≤ n → i ≡ word_start s n = λ k. start_found n i k stop (λ j x a b. none j x a (omega arith)) in
      let no : i ≤ n → word_at s n ≡ true = λ k. none n (index n) k (omega arith) in
      let yes : i ≡ suc n → word_at s n ≡ false = λ e. rw (e, same) at (stop (omega (arith, e))) in
      grind (arith, on, no, yes)

  back_le : (n : ℕ) → back_to_word s n ≤ n
  unfolding back_to_word
  back_le zero = omega arith
  back_le (suc n) = either (λ (k : ℕ). k ≤ suc n) (word_at s (suc n)) (suc n) (back_to_word s n) (omega arith) (omega (arith, back_le n))

  word_found : (k at i : ℕ) → at ≤ i → i ≤ at + k → (i < at + k → word_at s i ≡ false) → ((j : ℕ) → Index j → at ≤ j → j < i → word_at s j ≡ true)
      → i ≡ past_word s k at
  unfolding past_word
  word_found zero at i a b stop all = omega arith
  word_found (suc k) at i a b stop all =
      let on : at < i → i ≡ past_word s k (suc at) =
      λ h. word_found k (suc at) i h (omega arith) (λ h. stop (omega arith)) (λ j x p q. all j x (omega arith) q) in
      let no : at < i → word_at s at ≡ true = λ h. all at (index at) (omega arith) h in
      let yes : at ≡ i → word_at s at ≡ false = λ e. ap (word_at s) e ∙ stop (omega arith) in
      grind (arith, on, no, yes)

  gap_found : (k at i : ℕ) → at ≤ i → i ≤ at + k → (i < at + k → word_at s i ≡ true) → ((j : ℕ) → Index j → at ≤ j → j < i → word_at s j ≡ false)
      → i ≡ past_gap s k at
  unfolding past_gap
  gap_found zero at i a b stop all = omega arith
  gap_found (suc k) at i a b stop all =
      let on : at < i → i ≡ past_gap s k (suc at) =
      λ h. gap_found k (suc at) i h (omega arith) (λ h. stop (omega arith)) (λ j x p q. all j x (omega arith) q) in
      let no : at < i → word_at s at ≡ false = λ h. all at (index at) (omega arith) h in
      let yes : at ≡ i → word_at s at ≡ true = λ e. ap (word_at s) e ∙ stop (omega arith) in
      grind (arith, on, no, yes)

  module _ (max at i : ℕ) (a : at ≤ i) (b : i ≤ max) where
    pub past_word_found : (i < max → word_at s i ≡ false) → ((j : ℕ) → Index j → at ≤ j → j < i → word_at s j ≡ true) → i ≡ past_word s (max - at) at
    past_word_found stop = word_found (max - at) at i a (omega arith) (λ h. stop (omega arith))

    pub past_gap_found : (i < max → word_at s i ≡ true) → ((j : ℕ) → Index j → at ≤ j → j < i → word_at s j ≡ false) → i ≡ past_gap s (max - at) at
    past_gap_found stop = gap_found (max - at) at i a (omega arith) (λ h. stop (omega arith))

  past_word_le : (k i : ℕ) → past_word s k i ≤ i + k
  unfolding past_word
  past_word_le zero i = omega arith
  past_word_le (suc k) i = either (λ (n : ℕ). n ≤ i + suc k) (word_at s i) (past_word s k (suc i)) i (omega (arith, past_word_le k (suc i))) (omega arith)

  -- ---- `word_left`, `word_right`: the searches begin at the cell under the cursor, and where one stops, the next one begins

  pub cell_is : (i : ℕ) → Flat s.head i → i ≡ cell_of s
  unfolding cell_of
  cell_is i f = f.is

  pub left_inside : (i j : ℕ) → Flat s.head i → j ≡ back_to_word s (i - 1) → j < 25 * s.head.width
  left_inside i j f e = omega (arith, back_le (i - 1))

  pub right_inside : (max i j : ℕ) → Cells s.head max → Flat s.head i → j ≡ past_word s (max - i) i → j ≤ max
  right_inside max i j f g e = omega (arith, past_word_le (max - i) i)
