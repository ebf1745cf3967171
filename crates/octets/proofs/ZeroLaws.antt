-- A test of each byte of a part.
-- Assumes nothing.
use Prim.Native.Nat.{ℕ, ◌+◌, ◌<◌, ◌≤◌}
use mathlib.Core.Path.{◌≡◌, sym, ap, ◌∙◌}
use mathlib.Core.Bool.{Bool, true, ◌&&◌, and-true}
use mathlib.Core.List.{List, [], ◌∷◌}
use native.Mathlib.Omega.{arith}
use lib.ListN.{length, get_or}
use Rattle.octets.specs.Test.{every}
use Rattle.octets.specs.Part.{window}
use Rattle.std.proofs.Math.Bool.{and_assoc}
use Rattle.std.specs.List.{fold}
use Rattle.octets.proofs.Bools.{every_at, at_every}
use Rattle.octets.proofs.PartLaws.{length_window, get_d_window}

-- each byte of a part passes exactly when the byte at each index does
module _ (p : ℕ → Bool) (l : List ℕ) (a n : ℕ) (h : a + n ≤ length l) where
  pub part_at : every p (window l a n) ≡ true → (i : ℕ) → i < n → p (get_or l (a + i) 0) ≡ true
  part_at e i k = ap p (sym (get_d_window l a n i k)) ∙ every_at p (window l a n) i 0 e (omega (arith, length_window l a n h))

  pub at_part : ((i : ℕ) → i < n → p (get_or l (a + i) 0) ≡ true) → every p (window l a n) ≡ true
  at_part each =
      at_every p (window l a n) 0
      (λ i q.
      let k : i < n = omega (arith, length_window l a n h) in
      ap p (get_d_window l a n i k) ∙ each i k)

-- every element passes, where all are looked at
pub fold_every : (p : ℕ → Bool) (b : Bool) (xs : List ℕ) → fold (λ (all : Bool) (x : ℕ). all && p x) b xs ≡ b && every p xs
unfolding every
fold_every p b [] = sym (and-true b)
fold_every p b (x ∷ xs) = fold_every p (b && p x) xs ∙ and_assoc b (p x) (every p xs)

pub every_passes : (p : ℕ → Bool) (xs : List ℕ) (r : Bool) → r ≡ fold (λ (all : Bool) (x : ℕ). all && p x) true xs → r ≡ every p xs
every_passes p xs r e = e ∙ fold_every p true xs
