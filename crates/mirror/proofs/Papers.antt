-- The sittings of a paper: the one in a place is the one with its number, since no number is used twice.
-- Assumes nothing.
use Prim.Native.Nat.{ℕ, zero, suc, ◌≤◌, ◌<◌}
use mathlib.Core.Path.{◌≡◌, refl, sym, ap, ◌∙◌}
use mathlib.Core.Bool.{Bool, true, false}
use mathlib.Core.List.{List, [], ◌∷◌}
use mathlib.Core.Logic.{◌≢◌}
use native.Mathlib.Omega.{arith}
use lib.Dec.{ltb}
use lib.ListN.{length, get_or-eq_default}
use borrow.Author.Tests.{ltb-true, ltb-false, eq-eqb, ne_eqb}
use Rattle.std.proofs.lemmas.Bool.{cond-true as pick, cond-false as skip}
use Rattle.octets.proofs.Bools.{either}
use Rattle.mirror.specs.Demand3.{Sitting, in_place, with_number, Paper, sitting, numbered}

module _ (s : Sitting) where
  found : (all : List Sitting) (i : ℕ) → i < length all
      → ((j k : ℕ) → j < k → k < length all → (in_place s all j).number ≢ (in_place s all k).number)
      → with_number s all (in_place s all i).number ≡ in_place s all i
  unfolding in_place with_number
  found [] i h once = absurd (omega arith)
  found (t ∷ more) zero h once = pick _ _ _ (eq-eqb t.number t.number refl)
  found (t ∷ more) (suc i) h once =
      skip _ _ _ (ne_eqb _ _ (once zero (suc i) (omega arith) h))
      ∙ found more i (omega arith) (λ j k p q. once (suc j) (suc k) (omega arith) (omega arith))

  most_number : (all : List Sitting) (n : ℕ) → s.number ≤ n → ((j : ℕ) → (in_place s all j).number ≤ n) → (x : ℕ) → (with_number s all x).number ≤ n
  unfolding in_place with_number
  most_number [] n h k x = h
  most_number (t ∷ more) n h k x =
      either (λ (u : Sitting). u.number ≤ n) _ _ _ (k zero) (most_number more n h (λ j. k (suc j)) x)

module _ (paper : Paper) where
  -- THE LAW of numbers
  pub numbered_is : (i : ℕ) → numbered paper (sitting paper i).number ≡ sitting paper i
  numbered_is i = go (ltb i (length all)) refl
    where
      all : List Sitting
      all = paper.first ∷ paper.others

      inside : (i : ℕ) → i < length all → numbered paper (sitting paper i).number ≡ sitting paper i
      inside i h = found paper.first all i h (λ j k p q. paper.once j k p (omega arith))

      go : (b : Bool) → ltb i (length all) ≡ b → numbered paper (sitting paper i).number ≡ sitting paper i
      go true e = inside i (ltb-true _ _ e)
      go false e =
          let f : sitting paper i ≡ sitting paper 0 = unfold in_place in get_or-eq_default all paper.first (ltb-false i (length all) e) in
          ap (λ (s : Sitting). numbered paper s.number) f ∙ inside 0 (omega arith) ∙ sym f

  -- no number is above the largest
  pub numbered_most : (n : ℕ) → ((j : ℕ) → (sitting paper j).number ≤ n) → (x : ℕ) → (numbered paper x).number ≤ n
  numbered_most n h x = most_number paper.first (paper.first ∷ paper.others) n (unfold in_place in h 0) h x
