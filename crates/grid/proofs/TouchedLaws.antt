-- `touched`: the rows that differ, and their mask.
-- Assumes nothing.
use Prim.Native.Nat.{ℕ, zero, suc, ◌+◌, ◌*◌, ◌^◌, ◌<◌, ◌≤◌}
use mathlib.Core.Path.{◌≡◌, refl, sym, ap, ◌∙◌, subst}
use mathlib.Core.Bool.{Bool, true, false, not, ◌&&◌, and-true}
use mathlib.Core.List.{List, [], ◌∷◌, ◌++◌}
use native.Mathlib.Nat.{pow-suc, not-suc-le-zero, le_of_suc-le-suc}
use native.Mathlib.Numerals.{add-one}
use native.Mathlib.Omega.{arith}
use lib.ListN.{length, get_or, take}
use lib.Seq.{take-suc, take_all, length-take-le}
use borrow.Author.Tests.{eq-eqb}
use lib.Dec.{eqb}
use Rattle.values.specs.Mask.{WithRow}
use Rattle.grid.specs.Screen.{Row, number, same_row, differing, touched_rows, same}
use Rattle.grid.specs.Record.{row_of, rows_of}
use Rattle.octets.proofs.Bools.{and_both}
use Rattle.grid.proofs.RowLaws.{length_rows, get_d_rows}
use Rattle.std.proofs.Math.Bool.{and_assoc}
use Rattle.std.specs.List.{fold, zip}

-- ---- a list of tests as a number

pub number_lt : (bs : List Bool) → number bs < 2 ^ length bs
unfolding number
number_lt [] = omega arith
number_lt (true ∷ bs) = omega (arith, number_lt bs, pow-suc 2 (length bs))
number_lt (false ∷ bs) = omega (arith, number_lt bs, pow-suc 2 (length bs))

number_kept : (bs : List Bool) → number (bs ++ (false ∷ [])) ≡ number bs
unfolding number
number_kept [] = refl
number_kept (true ∷ bs) = ap (λ (k : ℕ). 2 * k + 1) (number_kept bs)
number_kept (false ∷ bs) = ap (λ (k : ℕ). 2 * k) (number_kept bs)

number_new : (bs : List Bool) → number (bs ++ (true ∷ [])) ≡ number bs + 2 ^ length bs
unfolding number
number_new [] = refl
number_new (true ∷ bs) = omega (arith, number_new bs, pow-suc 2 (length bs))
number_new (false ∷ bs) = omega (arith, number_new bs, pow-suc 2 (length bs))

pub length_differing : (o n : List Row) → length o ≡ length n → length (differing o n) ≡ length o
unfolding differing
length_differing [] n h = refl
length_differing (a ∷ o) [] h = absurd (omega arith)
length_differing (a ∷ o) (b ∷ n) h = ap suc (length_differing o n (omega arith))

get_d_differing : (o n : List Row) (d : Row) (r : ℕ) → r < length o → r < length n → get_or (differing o n) r false ≡ not (same_row (get_or o r d) (get_or n r d))
unfolding differing
get_d_differing [] n d r h k = absurd (not-suc-le-zero h)
get_d_differing (a ∷ o) [] d r h k = absurd (not-suc-le-zero k)
get_d_differing (a ∷ o) (b ∷ n) d zero h k = refl
get_d_differing (a ∷ o) (b ∷ n) d (suc r) h k = get_d_differing o n d r (le_of_suc-le-suc h) (le_of_suc-le-suc k)

-- ---- `changed_rows`: the first r rows of the records a and b

-- shut, so that `search` meets it as one call
unfoldable pub changed_to : List ℕ → List ℕ → ℕ → ℕ
changed_to a b r = number (take r (differing (rows_of a) (rows_of b)))

module _ (a b : List ℕ) where
  size : length (differing (rows_of a) (rows_of b)) ≡ 25
  size = length_differing (rows_of a) (rows_of b) (length_rows a ∙ sym (length_rows b)) ∙ length_rows a

  pub changed_start : ◌≡◌ {A = ℕ} 0 (changed_to a b 0)
  unfolding number changed_to
  changed_start = refl

  pub changed_lt : (mask r : ℕ) → r ≤ 25 → mask ≡ changed_to a b r → mask < 2 ^ r
  unfolding changed_to
  changed_lt mask r h e =
      let bs : List Bool = take r (differing (rows_of a) (rows_of b)) in
      let k : length bs ≡ r = length-take-le r (differing (rows_of a) (rows_of b)) (omega (arith, size)) in
      let q : number bs < 2 ^ r = subst (λ (i : ℕ). number bs < 2 ^ i) k (number_lt bs) in
      omega arith

  module _ (mask r : ℕ) (h : r < 25) (e : mask ≡ changed_to a b r) where
    -- the tests of the first rows, one row more
    one_more : take (r + 1) (differing (rows_of a) (rows_of b)) ≡ take r (differing (rows_of a) (rows_of b)) ++ (not (same_row (row_of a r) (row_of b r)) ∷ [])
    one_more =
        let bs : List Bool = differing (rows_of a) (rows_of b) in
        let d : Row = row_of a 0 in
        let g : get_or bs r false ≡ not (same_row (row_of a r) (row_of b r)) =
        get_d_differing (rows_of a) (rows_of b) d r (omega (arith, length_rows a)) (omega (arith, length_rows b))
        ∙ ap (λ (x : Row). not (same_row x (get_or (rows_of b) r d))) (get_d_rows a r d h) ∙ ap (λ (x : Row). not (same_row (row_of a r) x)) (get_d_rows b r d h) in
        ap (λ (i : ℕ). take i bs) (add-one r) ∙ take-suc bs r false (omega (arith, size)) ∙ ap (λ (x : Bool). take r bs ++ (x ∷ [])) g

    -- x and y are the two rows, and t says whether they are the same
    module _ (x y : Row) (t : Bool) (ex : x ≡ row_of a r) (ey : y ≡ row_of b r) (et : t ≡ same_row x y) where
      told : same_row (row_of a r) (row_of b r) ≡ t
      told = rw (← ex, ← ey) (sym et)

      pub row_kept : t ≡ true → mask ≡ changed_to a b (r + 1)
      unfolding changed_to
      row_kept is =
          let bs : List Bool = take r (differing (rows_of a) (rows_of b)) in
          e ∙ sym (ap number (one_more ∙ ap (λ (u : Bool). bs ++ (not u ∷ [])) (told ∙ is)) ∙ number_kept bs)

      pub row_marked : (m : ℕ) → t ≡ false → WithRow mask r m → m ≡ changed_to a b (r + 1)
      unfolding changed_to
      row_marked m is w =
          let bs : List Bool = take r (differing (rows_of a) (rows_of b)) in
          let k : length bs ≡ r = length-take-le r (differing (rows_of a) (rows_of b)) (omega (arith, size)) in
          w.sum (changed_lt mask r (omega arith) (unfold changed_to in e)) ∙ ap (λ (x : ℕ). x + 2 ^ r) e ∙ ap (λ (x : ℕ). number bs + 2 ^ x) (sym k)
          ∙ sym (ap number (one_more ∙ ap (λ (u : Bool). bs ++ (not u ∷ [])) (told ∙ is)) ∙ number_new bs)

  pub changed_end : (mask r : ℕ) → r ≤ 25 → 25 ≤ r → mask ≡ changed_to a b r → mask ≡ touched_rows (rows_of a) (rows_of b)
  unfolding touched_rows changed_to
  changed_end mask r h k e = e ∙ ap number (take_all r (differing (rows_of a) (rows_of b)) (omega (arith, size)))

same_itself : (xs : List ℕ) → same xs xs ≡ true
unfolding same
same_itself [] = refl
same_itself (x ∷ xs) = and_both _ _ (eq-eqb x x refl) (same_itself xs)

pub row_itself : (x : Row) → same_row x x ≡ true
unfolding same_row
row_itself x = and_both _ _ (and_both _ _ (eq-eqb x.flag _ refl) (same_itself x.chars)) (same_itself x.attrs)

pub touched_none : (rows : List Row) → touched_rows rows rows ≡ 0
unfolding touched_rows differing number
touched_none [] = refl
touched_none (x ∷ rows) = rw (row_itself x) (ap (λ (n : ℕ). 2 * n) (unfold touched_rows in touched_none rows))

-- as many bytes, as `alike` looks at all of them
fold_same : (b : Bool) (xs ys : List ℕ) → length xs ≡ length ys
    → fold (λ (all : Bool) (p : ℕ × ℕ). all && eqb p.0 p.1) b (zip xs ys) ≡ b && same xs ys
unfolding same
fold_same b [] [] h = sym (and-true b)
fold_same b [] (y ∷ ys) h = absurd (omega arith)
fold_same b (x ∷ xs) [] h = absurd (omega arith)
fold_same b (x ∷ xs) (y ∷ ys) h = fold_same (b && eqb x y) xs ys (omega arith) ∙ and_assoc b (eqb x y) (same xs ys)

pub bytes_same : (xs ys cs ds : List ℕ) (t : Bool) → length xs ≡ length ys → xs ≡ cs → ys ≡ ds
    → t ≡ fold (λ (all : Bool) (p : ℕ × ℕ). all && eqb p.0 p.1) true (zip xs ys) → t ≡ same cs ds
bytes_same xs ys cs ds t h ec ed e = rw (← ec, ← ed) (e ∙ fold_same true xs ys h)
