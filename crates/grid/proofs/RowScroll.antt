-- Rows that move: the first rows made blank, and the scroll of the editable rows.
-- Assumes nothing.
use Prim.Native.Nat.{ℕ, zero, suc, ◌+◌, ◌-◌, ◌*◌, ◌≤◌, ◌<◌}
use mathlib.Core.Path.{◌≡◌, refl, sym, ap, ◌∙◌}
use mathlib.Core.List.{List, [], ◌∷◌, ◌++◌}
use native.Mathlib.Nat.{le_of_suc-le-suc, not-suc-le-zero}
use native.Mathlib.Numerals.{add-one}
use native.Mathlib.Decide.{ℕ_discrete, dec_lt}
use native.Mathlib.Omega.{arith}
use lib.ListN.{length, get_or, take, drop, set, replicate, length-set, length-append, length-take, length-drop, get_or-append}
use lib.Seq.{ext_get_or, get_or-take, get_or-drop, get_or_at, get_or-append-add, get_or-set_same, get_or-set_other}
use Rattle.grid.specs.Layout.{SIZE, FLAGS, CHARS, ATTRS}
use Rattle.grid.specs.Screen.{Row, scrolled}
use Rattle.octets.specs.Part.{window, write}
use Rattle.grid.specs.Record.{row_of, rows_of, Becomes}
use Rattle.octets.proofs.PartLaws.{length_window, get_d_window, window_window, length_write, take_write, get_d_write_before, get_d_write_after, get_d_write_in, window_write_before, window_write_after, window_write_inside}
use Rattle.grid.proofs.RowLaws.{row_eq, length_rows, get_d_rows, and_then}

-- ---- `blank_rows`: the first r rows are b

-- shut, so that `search` meets it as one call
unfoldable pub blank_to : List ℕ → Row → ℕ → List Row
blank_to l b r = replicate r b ++ drop r (rows_of l)

set_next : (rows : List Row) (b : Row) (r : ℕ) → r < length rows → set (replicate r b ++ drop r rows) r b ≡ replicate (suc r) b ++ drop (suc r) rows
set_next [] b r h = absurd (not-suc-le-zero h)
set_next (x ∷ rows) b zero h = refl
set_next (x ∷ rows) b (suc r) h = ap (λ (R : List Row). b ∷ R) (set_next rows b r (le_of_suc-le-suc h))

pub blank_start : (l : List ℕ) (b : Row) → length l ≡ SIZE → Becomes l l (blank_to l b 0)
unfolding blank_to
blank_start l b len = record { size = len; front = refl; rows = refl }

pub blank_turn : (l m n : List ℕ) (b : Row) (r k : ℕ) → r < k → k ≤ 25 → Becomes l m (blank_to l b r) → Becomes m n (set (rows_of m) r b)
    → Becomes l n (blank_to l b (r + 1))
unfolding blank_to
blank_turn l m n b r k h h' p q =
    and_then p q
    (ap (λ (R : List Row). set R r b) p.rows ∙ set_next (rows_of l) b r (omega (arith, length_rows l))
    ∙ ap (λ (i : ℕ). replicate i b ++ drop i (rows_of l)) (sym (add-one r)))

pub blank_end : (l m : List ℕ) (b : Row) (r k : ℕ) → r ≤ k → k ≤ r → Becomes l m (blank_to l b r) → Becomes l m (replicate k b ++ drop k (rows_of l))
unfolding blank_to
blank_end l m b r k h h' p =
    let done : r ≡ k = omega arith in
    rw done at p

-- ---- `scroll_up`: each region is moved up by one row

module _ (l m₁ m₂ m₃ : List ℕ) (e : ℕ) (len : length l ≡ SIZE) (low : 1 ≤ e) (high : e ≤ 25)
    (e₁ : m₁ ≡ write l CHARS (window l (CHARS + 80) (80 * (e - 1)))) (e₂ : m₂ ≡ write m₁ ATTRS (window m₁ (ATTRS + 80) (80 * (e - 1))))
    (e₃ : m₃ ≡ write m₂ FLAGS (window m₂ (FLAGS + 1) (e - 1))) where
  s₁ : List ℕ
  s₁ = window l (CHARS + 80) (80 * (e - 1))

  s₂ : List ℕ
  s₂ = window m₁ (ATTRS + 80) (80 * (e - 1))

  s₃ : List ℕ
  s₃ = window m₂ (FLAGS + 1) (e - 1)

  n₁ : length m₁ ≡ SIZE
  n₁ = ap length e₁ ∙ length_write l CHARS _ ∙ len

  n₂ : length m₂ ≡ SIZE
  n₂ = ap length e₂ ∙ length_write m₁ ATTRS _ ∙ n₁

  k₁ : length s₁ ≡ 80 * (e - 1)
  unfolding s₁
  k₁ = length_window l (CHARS + 80) (80 * (e - 1)) (omega arith)

  k₂ : length s₂ ≡ 80 * (e - 1)
  unfolding s₂
  k₂ = length_window m₁ (ATTRS + 80) (80 * (e - 1)) (omega (arith, n₁))

  k₃ : length s₃ ≡ e - 1
  unfolding s₃
  k₃ = length_window m₂ (FLAGS + 1) (e - 1) (omega (arith, n₂))

  -- what the later moves leave of the earlier ones
  chars_left : (k : ℕ) → k < 25 → window m₃ (CHARS + 80 * k) 80 ≡ window m₁ (CHARS + 80 * k) 80
  unfolding s₂ s₃
  chars_left k h =
      ap (λ (x : List ℕ). window x (CHARS + 80 * k) 80) e₃ ∙ window_write_after m₂ FLAGS s₃ (CHARS + 80 * k) 80 (omega (arith, n₂)) (omega (arith, k₃))
      ∙ ap (λ (x : List ℕ). window x (CHARS + 80 * k) 80) e₂ ∙ window_write_before m₁ ATTRS s₂ (CHARS + 80 * k) 80 (omega (arith, n₁)) (omega arith)

  attrs_left : (k : ℕ) → k < 25 → window m₃ (ATTRS + 80 * k) 80 ≡ window m₂ (ATTRS + 80 * k) 80
  unfolding s₃
  attrs_left k h =
      ap (λ (x : List ℕ). window x (ATTRS + 80 * k) 80) e₃ ∙ window_write_after m₂ FLAGS s₃ (ATTRS + 80 * k) 80 (omega (arith, n₂)) (omega (arith, k₃))

  attrs_first : (k : ℕ) → k < 25 → window m₁ (ATTRS + 80 * k) 80 ≡ window l (ATTRS + 80 * k) 80
  unfolding s₁
  attrs_first k h =
      ap (λ (x : List ℕ). window x (ATTRS + 80 * k) 80) e₁ ∙ window_write_after l CHARS s₁ (ATTRS + 80 * k) 80 (omega arith) (omega (arith, k₁))

  flags_first : (k : ℕ) → k < 25 → get_or m₂ (FLAGS + k) 0 ≡ get_or l (FLAGS + k) 0
  unfolding s₁ s₂
  flags_first k h =
      ap (λ (x : List ℕ). get_or x (FLAGS + k) 0) e₂ ∙ get_d_write_before m₁ ATTRS s₂ (FLAGS + k) (omega arith)
      ∙ ap (λ (x : List ℕ). get_or x (FLAGS + k) 0) e₁ ∙ get_d_write_before l CHARS s₁ (FLAGS + k) (omega arith)

  row_moved : (k : ℕ) → k < e - 1 → row_of m₃ k ≡ row_of l (k + 1)
  unfolding row_of s₁ s₂ s₃
  row_moved k h =
      let i : FLAGS + 1 + k ≡ FLAGS + (k + 1) = omega arith in
      let i₁ : CHARS + 80 + 80 * k ≡ CHARS + 80 * (k + 1) = omega arith in
      let i₂ : ATTRS + 80 + 80 * k ≡ ATTRS + 80 * (k + 1) = omega arith in
      row_eq _ _
      (ap (λ (x : List ℕ). get_or x (FLAGS + k) 0) e₃ ∙ get_d_write_in m₂ FLAGS s₃ k (omega (arith, n₂)) (omega (arith, k₃))
      ∙ get_d_window m₂ (FLAGS + 1) (e - 1) k h ∙ ap (λ (j : ℕ). get_or m₂ j 0) i ∙ flags_first (k + 1) (omega arith))
      (chars_left k (omega arith) ∙ ap (λ (x : List ℕ). window x (CHARS + 80 * k) 80) e₁
      ∙ window_write_inside l CHARS s₁ (80 * k) 80 (omega (arith, k₁)) (omega (arith, k₁))
      ∙ window_window l (CHARS + 80) (80 * k) (80 * (e - 1)) 80 (omega arith) (omega arith) ∙ ap (λ (j : ℕ). window l j 80) i₁)
      (attrs_left k (omega arith) ∙ ap (λ (x : List ℕ). window x (ATTRS + 80 * k) 80) e₂
      ∙ window_write_inside m₁ ATTRS s₂ (80 * k) 80 (omega (arith, n₁, k₂)) (omega (arith, k₂))
      ∙ window_window m₁ (ATTRS + 80) (80 * k) (80 * (e - 1)) 80 (omega arith) (omega (arith, n₁)) ∙ ap (λ (j : ℕ). window m₁ j 80) i₂
      ∙ attrs_first (k + 1) (omega arith))

  row_still : (k : ℕ) → e - 1 ≤ k → k < 25 → row_of m₃ k ≡ row_of l k
  unfolding row_of s₁ s₂ s₃
  row_still k h p =
      row_eq _ _
      (ap (λ (x : List ℕ). get_or x (FLAGS + k) 0) e₃ ∙ get_d_write_after m₂ FLAGS s₃ (FLAGS + k) (omega (arith, k₃)) ∙ flags_first k p)
      (chars_left k p ∙ ap (λ (x : List ℕ). window x (CHARS + 80 * k) 80) e₁
      ∙ window_write_after l CHARS s₁ (CHARS + 80 * k) 80 (omega arith) (omega (arith, k₁)))
      (attrs_left k p ∙ ap (λ (x : List ℕ). window x (ATTRS + 80 * k) 80) e₂
      ∙ window_write_after m₁ ATTRS s₂ (ATTRS + 80 * k) 80 (omega (arith, n₁)) (omega (arith, k₂)) ∙ attrs_first k p)

  front_still : take FLAGS m₃ ≡ take FLAGS l
  front_still =
      ap (take FLAGS) e₃ ∙ take_write FLAGS m₂ FLAGS _ (omega arith) ∙ ap (take FLAGS) e₂ ∙ take_write FLAGS m₁ ATTRS _ (omega arith)
      ∙ ap (take FLAGS) e₁ ∙ take_write FLAGS l CHARS _ (omega arith)

  module _ (b : Row) where
    length_scrolled : length (scrolled (rows_of l) e b) ≡ 25
    unfolding scrolled
    length_scrolled = simp (length-append, length-drop, length-take) (omega (arith, length_rows l))

    -- row k of the scrolled rows
    scrolled_at : (k : ℕ) → k < 25 → (k < e - 1 → get_or (scrolled (rows_of l) e b) k b ≡ row_of l (k + 1)) × (k ≡ e - 1 → get_or (scrolled (rows_of l) e b) k b ≡ b) × (e - 1 < k → get_or (scrolled (rows_of l) e b) k b ≡ row_of l k)
    unfolding scrolled
    scrolled_at k h =
        let top : List Row = drop 1 (take e (rows_of l)) in
        let n : length top ≡ e - 1 = simp (length-drop, length-take) (omega (arith, length_rows l)) in (
          (λ p.
              get_or-append top (b ∷ drop e (rows_of l)) b k (omega arith) ∙ get_or-drop 1 (take e (rows_of l)) k b
              ∙ get_or-take e (rows_of l) (1 + k) b (omega arith) ∙ get_d_rows l (1 + k) b (omega arith) ∙ ap (row_of l) (omega arith)),
          (λ p. get_or_at top b (drop e (rows_of l)) b k (omega arith)),
          (λ p.
              let j : k ≡ length top + suc (k - e) = omega arith in
              let i : e + (k - e) ≡ k = omega arith in
              ap (λ (x : ℕ). get_or (top ++ (b ∷ drop e (rows_of l))) x b) j ∙ get_or-append-add top (b ∷ drop e (rows_of l)) (suc (k - e)) b
              ∙ get_or-drop e (rows_of l) (k - e) b ∙ ap (λ (x : ℕ). get_or (rows_of l) x b) i ∙ get_d_rows l k b h),
        )

    pub scroll_end : (m : List ℕ) → Becomes m₃ m (set (rows_of m₃) (e - 1) b) → Becomes l m (scrolled (rows_of l) e b)
    scroll_end m p =
        record {
          size = p.size;
          front = p.front ∙ front_still;
          rows =
              p.rows
              ∙ ext_get_or b (set (rows_of m₃) (e - 1) b) (scrolled (rows_of l) e b) (length-set (rows_of m₃) (e - 1) b ∙ length_rows m₃ ∙ sym length_scrolled)
              (λ k q.
              let h : k < 25 = omega (arith, length-set (rows_of m₃) (e - 1) b, length_rows m₃) in
              at k h (ℕ_discrete k (e - 1)) (dec_lt k (e - 1)));
        }
      where
        at : (k : ℕ) → k < 25 → Dec (k ≡ e - 1) → Dec (k < e - 1) → get_or (set (rows_of m₃) (e - 1) b) k b ≡ get_or (scrolled (rows_of l) e b) k b
        at k h (yes q) d = ap (λ (i : ℕ). get_or (set (rows_of m₃) (e - 1) b) i b) q ∙ get_or-set_same (rows_of m₃) (e - 1) b b (omega (arith, length_rows m₃)) ∙ sym ((scrolled_at k h).1 q)
        at k h (no ne) (yes lt) =
            get_or-set_other (rows_of m₃) (e - 1) k b b ne ∙ get_d_rows m₃ k b h ∙ row_moved k lt ∙ sym ((scrolled_at k h).0 lt)
        at k h (no ne) (no ge) =
            get_or-set_other (rows_of m₃) (e - 1) k b b ne ∙ get_d_rows m₃ k b h ∙ row_still k (omega arith) h ∙ sym ((scrolled_at k h).2 (omega arith))
