-- Tests: conjunctions, and a test of each element.
-- Assumes nothing.
use Prim.Native.Nat.{ℕ, zero, suc, ◌<◌}
use mathlib.Core.Path.{◌≡◌, refl, sym, ◌∙◌}
use mathlib.Core.Bool.{Bool, true, false, ◌&&◌, true≢false, not-eq-not}
use mathlib.Core.List.{List, [], ◌∷◌, ◌++◌}
use mathlib.Core.Logic.{◌↔◌, ◌⊎◌, inl, inr, ⊎_elim}
use native.Mathlib.Nat.{le_of_suc-le-suc, not-suc-le-zero}
use native.Mathlib.Omega.{arith}
use lib.ListN.{length, get_or, take, drop, set, replicate}
use borrow.Author.Tests.{eqb-true, lt-ltb, le-ltb, le-leb, lt-leb, eq-eqb, ne_eqb}
use Rattle.std.specs.Prelude.{if◌then◌else◌}
use Rattle.octets.specs.Test.{every}
use Rattle.std.proofs.lemmas.Bool.{cond-true, cond-false}
pub use Rattle.std.proofs.lemmas.Bool.{and_from as and_both}

pub and_left : (a b : Bool) → a && b ≡ true → a ≡ true
and_left true b e = refl
and_left false b e = e

pub and_right : (a b : Bool) → a && b ≡ true → b ≡ true
and_right true b e = e
and_right false b e = absurd (true≢false (sym e))

pub and_false : (a b : Bool) → b ≡ false → a && b ≡ false
and_false true b e = e
and_false false b e = refl

pub left_false : (a b : Bool) → a ≡ false → a && b ≡ false
left_false a b e = rw e

-- what a test says is not so exactly when the test fails
pub fails : (A : Type 0) (b : Bool) → (b ≡ true → A) → (A → b ≡ true) → (¬ A) ↔ (b ≡ false)
fails A b f g = (λ n. (not-eq-not {b = false}).0 (λ e. n (f e)), λ e a. true≢false (sym (g a) ∙ e))

-- takes a conjunction of tests apart, and puts it together
pub ruleset tests = (and_left, and_right, and_both, eqb-true, eq-eqb)

-- THE LAW of a choice: what both answers have, each under its test, the choice has
pub cases : {A : Type 0} (P : A → Type 0) (b : Bool) (x y : A) → (b ≡ true → P x) → (b ≡ false → P y) → P (if b then x else y)
cases P true x y f g = f refl
cases P false x y f g = g refl

pub either : {A : Type 0} (P : A → Type 0) (b : Bool) (x y : A) → P x → P y → P (if b then x else y)
either P b x y f g = cases P b x y (λ e. f) (λ e. g)

-- what the code answers is the choice that the definition makes: `search (rules, choice)`, with the definition on the `unfolding` line
pub picked : {A : Type 0} (b : Bool) (x y z : A) → b ≡ true → x ≡ y → x ≡ (if b then y else z)
picked b x y z e h = h ∙ sym (cond-true b y z e)

pub skipped : {A : Type 0} (b : Bool) (x y z : A) → b ≡ false → x ≡ z → x ≡ (if b then y else z)
skipped b x y z e h = h ∙ sym (cond-false b y z e)

pub ruleset choice = (picked, skipped, lt-ltb, le-ltb, le-leb, lt-leb, eq-eqb, ne_eqb)

-- ---- a test of each element

module _ {ℓ} {A : Type ℓ} (p : A → Bool) where
  pub every_append : (xs ys : List A) → every p (xs ++ ys) ≡ every p xs && every p ys
  unfolding every
  every_append [] ys = refl
  every_append (x ∷ xs) ys = step (p x) (every_append xs ys)
    where
      step : (b : Bool) → every p (xs ++ ys) ≡ every p xs && every p ys → b && every p (xs ++ ys) ≡ b && every p xs && every p ys
      step true e = e
      step false e = refl

  pub every_both : (xs ys : List A) → every p xs ≡ true → every p ys ≡ true → every p (xs ++ ys) ≡ true
  every_both xs ys e f = every_append xs ys ∙ and_both _ _ e f

  pub every_cons : (x : A) (xs : List A) → p x ≡ true → every p xs ≡ true → every p (x ∷ xs) ≡ true
  unfolding every
  every_cons x xs e f = and_both _ _ e f

  pub every_take : (n : ℕ) (xs : List A) → every p xs ≡ true → every p (take n xs) ≡ true
  unfolding every
  every_take zero xs e = refl
  every_take (suc n) [] e = refl
  every_take (suc n) (x ∷ xs) e = rw (and_left (p x) (every p xs) e) (every_take n xs (and_right (p x) (every p xs) e))

  pub every_drop : (n : ℕ) (xs : List A) → every p xs ≡ true → every p (drop n xs) ≡ true
  unfolding every
  every_drop zero xs e = e
  every_drop (suc n) [] e = refl
  every_drop (suc n) (x ∷ xs) e = every_drop n xs (and_right (p x) (every p xs) e)

  pub every_at : (xs : List A) (i : ℕ) (d : A) → every p xs ≡ true → i < length xs → p (get_or xs i d) ≡ true
  unfolding every
  every_at [] i d e h = absurd (not-suc-le-zero h)
  every_at (x ∷ xs) zero d e h = and_left (p x) (every p xs) e
  every_at (x ∷ xs) (suc i) d e h = every_at xs i d (and_right (p x) (every p xs) e) (le_of_suc-le-suc h)

  pub at_every : (xs : List A) (d : A) → ((i : ℕ) → i < length xs → p (get_or xs i d) ≡ true) → every p xs ≡ true
  unfolding every
  at_every [] d each = refl
  at_every (x ∷ xs) d each = and_both (p x) (every p xs) (each 0 (omega arith)) (at_every xs d (λ i h. each (suc i) (omega arith)))

  pub every_replicate : (n : ℕ) (x : A) → p x ≡ true → every p (replicate n x) ≡ true
  unfolding every
  every_replicate zero x e = refl
  every_replicate (suc n) x e = rw e (every_replicate n x e)

  pub every_set : (xs : List A) (i : ℕ) (x : A) → every p xs ≡ true → p x ≡ true → every p (set xs i x) ≡ true
  unfolding every
  every_set [] i x e h = refl
  every_set (y ∷ xs) zero x e h = rw h (and_right (p y) (every p xs) e)
  every_set (y ∷ xs) (suc i) x e h = rw (and_left (p y) (every p xs) e) (every_set xs i x (and_right (p y) (every p xs) e) h)

pub and_fails : (a b : Bool) → a && b ≡ false → (a ≡ false) ⊎ ((a ≡ true) × (b ≡ false))
and_fails true b e = inr (refl, e)
and_fails false b e = inl refl

-- where not every element passes, one does not
pub some_fails {ℓ} : {A : Type ℓ} (p : A → Bool) (xs : List A) (d : A) → every p xs ≡ false → (i : ℕ) × (i < length xs) × (p (get_or xs i d) ≡ false)
unfolding every
some_fails p [] d e = absurd (true≢false e)
some_fails p (x ∷ xs) d e =
    ⊎_elim (λ q. (0, omega arith, q))
    (λ q.
    let r = some_fails p xs d q.1 in
    (suc r.0, omega arith, r.2))
    (and_fails (p x) (every p xs) e)
