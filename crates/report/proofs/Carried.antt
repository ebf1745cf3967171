-- The rows that a mask carries. Put into the old rows, they give the new ones wherever the mask covers what differs (`merge_carry`); the mask of the
-- differing rows does, and so does that of all rows.
-- Assumes nothing.
use Prim.Native.Nat.{ℕ, zero, suc, ◌+◌, ◌*◌, ◌/◌, ◌%◌, ◌^◌, ◌<◌}
use mathlib.Core.Path.{◌≡◌, refl, sym, ap}
use mathlib.Core.Bool.{Bool, true, false, not, true≢false}
use mathlib.Core.List.{List, [], ◌∷◌}
use native.Mathlib.Nat.{pow-suc}
use native.Mathlib.Omega.{arith}
use lib.Dec.{eqb}
use lib.ListN.{length, replicate}
use lib.Count.{ones, ones_step, ones-le}
use borrow.Author.Tests.{eqb-true, eqb-false}
use Rattle.grid.specs.Screen.{Row, same, same_row, differing, number}
use Rattle.octets.specs.Test.{every}
use Rattle.octets.proofs.Bools.{and_left, and_right, and_both, cases}
use Rattle.report.specs.Carried.{bits, carry, merge}

same_eq : (xs ys : List ℕ) → same xs ys ≡ true → xs ≡ ys
unfolding same
same_eq [] [] t = refl
same_eq [] (y ∷ ys) t = absurd (true≢false (sym t))
same_eq (x ∷ xs) [] t = absurd (true≢false (sym t))
same_eq (x ∷ xs) (y ∷ ys) t =
    let p : x ≡ y = eqb-true x y (and_left (eqb x y) (same xs ys) t) in
    let q : xs ≡ ys = same_eq xs ys (and_right (eqb x y) (same xs ys) t) in
    cc

pub same_row_is : (a b : Row) → same_row a b ≡ true → a ≡ b
unfolding same_row
same_row_is a b t =
    let p : a.flag ≡ b.flag = eqb-true _ _ (search (and_left, and_right)) in
    let q : a.chars ≡ b.chars = same_eq _ _ (search (and_left, and_right)) in
    let r : a.attrs ≡ b.attrs = same_eq _ _ (search (and_left, and_right)) in
    λ i. record { flag = p i; chars = q i; attrs = r i }

-- the rows that the mask leaves out are alike
pub data Covers : List Bool → List Row → List Row → Type 0 where
  end : Covers [] [] []
  new : {bs : List Bool} {o n : List Row} {a b : Row} → Covers bs o n → Covers (true ∷ bs) (a ∷ o) (b ∷ n)
  kept : {bs : List Bool} {o n : List Row} {a : Row} → Covers bs o n → Covers (false ∷ bs) (a ∷ o) (a ∷ n)

pub merge_carry : {bs : List Bool} {o n : List Row} → Covers bs o n → merge bs (carry bs n) o ≡ n
unfolding merge carry
merge_carry end = refl
merge_carry (new {b = b} c) = ap (λ (l : List Row). b ∷ l) (merge_carry c)
merge_carry (kept {a = a} c) = ap (λ (l : List Row). a ∷ l) (merge_carry c)

pub differing_covers : (o n : List Row) → length o ≡ length n → Covers (differing o n) o n
unfolding differing
differing_covers [] [] h = end
differing_covers [] (b ∷ n) h = absurd (omega arith)
differing_covers (a ∷ o) [] h = absurd (omega arith)
differing_covers (a ∷ o) (b ∷ n) h = go (same_row a b) refl (differing_covers o n (omega arith))
  where
    go : (t : Bool) → same_row a b ≡ t → Covers (differing o n) o n → Covers (not t ∷ differing o n) (a ∷ o) (b ∷ n)
    go true e c = rw (← (same_row_is a b e)) (kept c)
    go false e c = new c

pub all_cover : (o n : List Row) → length o ≡ length n → Covers (replicate (length o) true) o n
all_cover [] [] h = end
all_cover [] (b ∷ n) h = absurd (omega arith)
all_cover (a ∷ o) [] h = absurd (omega arith)
all_cover (a ∷ o) (b ∷ n) h = new (all_cover o n (omega arith))

pub every_carry : (p : Row → Bool) (bs : List Bool) (rows : List Row) → every p rows ≡ true → every p (carry bs rows) ≡ true
unfolding carry every
every_carry p [] rows t = refl
every_carry p (b ∷ bs) [] t = refl
every_carry p (b ∷ bs) (x ∷ rows) t =
    let u = every_carry p bs rows (and_right (p x) _ t) in
    cases (λ (l : List Row). every p l ≡ true) b (x ∷ carry bs rows) (carry bs rows) (λ e. and_both (p x) _ (and_left (p x) _ t) u) (λ e. u)

pub bits_number : (bs : List Bool) → bits (length bs) (number bs) ≡ bs
unfolding bits number
bits_number [] = refl
bits_number (true ∷ bs) =
    let e : (2 * number bs + 1) % 2 ≡ 1 = omega arith in
    let d : (2 * number bs + 1) / 2 ≡ number bs = omega arith in
    rw (e, d) (ap (λ (l : List Bool). true ∷ l) (bits_number bs))
bits_number (false ∷ bs) =
    let e : (2 * number bs) % 2 ≡ 0 = omega arith in
    let d : (2 * number bs) / 2 ≡ number bs = omega arith in
    rw (e, d) (ap (λ (l : List Bool). false ∷ l) (bits_number bs))

pub length_carry : (k mask : ℕ) (rows : List Row) → length rows ≡ k → mask < 2 ^ k → length (carry (bits k mask) rows) ≡ ones mask
unfolding carry bits
length_carry zero mask rows h l = omega (arith, ones-le zero mask l)
length_carry (suc k) mask [] h l = absurd (omega arith)
length_carry (suc k) mask (x ∷ rows) h l =
    let ih = length_carry k (mask / 2) rows (omega arith) (omega (arith, pow-suc 2 k)) in
    cases (λ (c : List Row). length c ≡ ones mask) _ _ _
    (λ e. omega (arith, ones_step mask, eqb-true (mask % 2) 1 e))
    (λ e. let n : mask % 2 ≡ 1 → ⊥ = eqb-false (mask % 2) 1 e in omega (arith, ones_step mask))
