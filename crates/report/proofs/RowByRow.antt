-- A mask row by row: what one row more adds to the rows that it carries, and to the rows into which carried ones are put.
-- Assumes nothing.
use Prim.Native.Nat.{ℕ, zero, suc, ◌+◌, ◌/◌, ◌%◌, ◌^◌, ◌≤◌, ◌<◌}
use mathlib.Core.Path.{◌≡◌, refl, ap, ◌∙◌}
use mathlib.Core.Bool.{Bool, true, false}
use mathlib.Core.List.{List, [], ◌∷◌, ◌++◌}
use native.Mathlib.Omega.{arith}
use lib.Dec.{eqb}
use lib.ListN.{length, get_or, set}
use lib.Pow.{shr-shr}
use lib.Count.{ones, ones_step}
use borrow.Author.Tests.{eqb-true}
use Rattle.std.specs.Prelude.{if◌then◌else◌}
use Rattle.grid.specs.Screen.{Row}
use Rattle.values.specs.Mask.{has_row}
use Rattle.report.specs.Carried.{bits, carry, merge}

-- ---- the bits

length_bits : (k mask : ℕ) → length (bits k mask) ≡ k
unfolding bits
length_bits zero mask = refl
length_bits (suc k) mask = ap suc (length_bits k (mask / 2))

has_zero : (mask : ℕ) → eqb (mask % 2) 1 ≡ has_row mask 0
unfolding has_row
has_zero mask =
    let e : mask ≡ mask / 1 = omega arith in
    ap (λ (x : ℕ). eqb (x % 2) 1) e

has_half : (mask k : ℕ) → has_row (mask / 2) k ≡ has_row mask (suc k)
unfolding has_row
has_half mask k =
    let e : 1 + k ≡ suc k = omega arith in
    ap (λ (x : ℕ). eqb (x % 2) 1) (shr-shr mask 1 k ∙ ap (λ (j : ℕ). mask / 2 ^ j) e)

bits_more : (k mask : ℕ) → bits (suc k) mask ≡ bits k mask ++ (has_row mask k ∷ [])
unfolding bits
bits_more zero mask = ap (λ (b : Bool). b ∷ []) (has_zero mask)
bits_more (suc k) mask =
    ap (λ (bs : List Bool). eqb (mask % 2) 1 ∷ bs)
    (bits_more k (mask / 2) ∙ ap (λ (b : Bool). bits k (mask / 2) ++ (b ∷ [])) (has_half mask k))

-- how many are true
unfoldable pub trues : List Bool → ℕ
trues [] = 0
trues (true ∷ bs) = suc (trues bs)
trues (false ∷ bs) = trues bs

trues_snoc : (bs : List Bool) (b : Bool) → trues (bs ++ (b ∷ [])) ≡ (if b then suc (trues bs) else trues bs)
unfolding trues
trues_snoc [] true = refl
trues_snoc [] false = refl
trues_snoc (true ∷ bs) true = ap suc (trues_snoc bs true)
trues_snoc (true ∷ bs) false = ap suc (trues_snoc bs false)
trues_snoc (false ∷ bs) b = trues_snoc bs b

trues_ones : (k mask : ℕ) → trues (bits k mask) ≤ ones mask
unfolding trues bits
trues_ones zero mask = omega arith
trues_ones (suc k) mask = go (eqb (mask % 2) 1) refl (trues_ones k (mask / 2))
  where
    go : (b : Bool) → eqb (mask % 2) 1 ≡ b → trues (bits k (mask / 2)) ≤ ones (mask / 2) → trues (b ∷ bits k (mask / 2)) ≤ ones mask
    go true e ih = omega (arith, ones_step mask, eqb-true (mask % 2) 1 e)
    go false e ih = omega (arith, ones_step mask)

-- ---- rows carried and rows put in

carry_snoc : (bs : List Bool) (b : Bool) (rows : List Row) (d : Row) → length bs < length rows
    → carry (bs ++ (b ∷ [])) rows ≡ carry bs rows ++ (if b then get_or rows (length bs) d ∷ [] else [])
unfolding carry
carry_snoc bs b [] d h = absurd (omega arith)
carry_snoc [] b (x ∷ rows) d h = refl
carry_snoc (a ∷ bs) b (x ∷ rows) d h =
    ap (λ (c : List Row). if a then x ∷ c else c) (carry_snoc bs b rows d (omega arith)) ∙ go a (if b then get_or rows (length bs) d ∷ [] else [])
  where
    go : (a : Bool) (more : List Row) → (if a then x ∷ (carry bs rows ++ more) else carry bs rows ++ more) ≡ (if a then x ∷ carry bs rows else carry bs rows) ++ more
    go true more = refl
    go false more = refl

merge_snoc : (bs : List Bool) (b : Bool) (ys rows : List Row) (d : Row) → length bs < length rows → (b ≡ true → trues bs < length ys)
    → merge (bs ++ (b ∷ [])) ys rows ≡ (if b then set (merge bs ys rows) (length bs) (get_or ys (trues bs) d) else merge bs ys rows)
unfolding merge trues
merge_snoc bs b ys [] d h f = absurd (omega arith)
merge_snoc [] false ys (x ∷ rows) d h f = refl
merge_snoc [] true [] (x ∷ rows) d h f = absurd (let k = f refl in omega arith)
merge_snoc [] true (y ∷ ys) (x ∷ rows) d h f = refl
merge_snoc (false ∷ bs) false ys (x ∷ rows) d h f = ap (λ (l : List Row). x ∷ l) (merge_snoc bs false ys rows d (omega arith) f)
merge_snoc (false ∷ bs) true ys (x ∷ rows) d h f = ap (λ (l : List Row). x ∷ l) (merge_snoc bs true ys rows d (omega arith) f)
merge_snoc (true ∷ bs) false [] (x ∷ rows) d h f = refl
merge_snoc (true ∷ bs) true [] (x ∷ rows) d h f = absurd (let k = f refl in omega arith)
merge_snoc (true ∷ bs) false (y ∷ ys) (x ∷ rows) d h f =
    ap (λ (l : List Row). y ∷ l) (merge_snoc bs false ys rows d (omega arith) (λ e. let k = f e in omega arith))
merge_snoc (true ∷ bs) true (y ∷ ys) (x ∷ rows) d h f =
    ap (λ (l : List Row). y ∷ l) (merge_snoc bs true ys rows d (omega arith) (λ e. let k = f e in omega arith))

-- ---- the first r rows of a mask, and one row more

-- how many rows of the mask stand before row r
unfoldable pub rows_before : ℕ → ℕ → ℕ
rows_before mask r = trues (bits r mask)

module _ (mask r : ℕ) where
  pub carry_more : (rows : List Row) (d : Row) → r < length rows
      → carry (bits (suc r) mask) rows ≡ carry (bits r mask) rows ++ (if has_row mask r then get_or rows r d ∷ [] else [])
  carry_more rows d h =
      let n = length_bits r mask in
      ap (λ (bs : List Bool). carry bs rows) (bits_more r mask) ∙ carry_snoc (bits r mask) (has_row mask r) rows d (omega arith)
      ∙ ap (λ (i : ℕ). carry (bits r mask) rows ++ (if has_row mask r then get_or rows i d ∷ [] else [])) n

  pub merge_more : (ys rows : List Row) (d : Row) → r < length rows → (has_row mask r ≡ true → rows_before mask r < length ys)
      → merge (bits (suc r) mask) ys rows ≡ (if has_row mask r then set (merge (bits r mask) ys rows) r (get_or ys (rows_before mask r) d) else merge (bits r mask) ys rows)
  unfolding rows_before
  merge_more ys rows d h f =
      let n = length_bits r mask in
      ap (λ (bs : List Bool). merge bs ys rows) (bits_more r mask) ∙ merge_snoc (bits r mask) (has_row mask r) ys rows d (omega arith) f
      ∙ ap (λ (i : ℕ). if has_row mask r then set (merge (bits r mask) ys rows) i (get_or ys (trues (bits r mask)) d) else merge (bits r mask) ys rows) n

  pub before_more : rows_before mask (suc r) ≡ (if has_row mask r then suc (rows_before mask r) else rows_before mask r)
  unfolding rows_before
  before_more = ap trues (bits_more r mask) ∙ trues_snoc (bits r mask) (has_row mask r)

pub before_most : (mask r : ℕ) → rows_before mask r ≤ ones mask
unfolding rows_before
before_most mask r = trues_ones r mask
