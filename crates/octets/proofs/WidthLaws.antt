-- The two widths.
-- Assumes nothing.
use Prim.Native.Nat.{ℕ, ◌≤◌}
use mathlib.Core.Path.{◌≡◌}
use mathlib.Core.Bool.{true}
use mathlib.Core.Logic.{◌⊎◌, inl, inr, ⊎_elim}
use native.Mathlib.Omega.{arith}
use lib.Dec.{eqb}
use borrow.Author.Tests.{eqb-true}
use Rattle.octets.specs.Width.{widthb}
use Rattle.std.proofs.lemmas.Bool.{or_cases}

pub width_cases : (w : ℕ) → widthb w ≡ true → (w ≡ 40) ⊎ (w ≡ 80)
width_cases w e = ⊎_elim (λ q. inl (eqb-true w 40 q)) (λ q. inr (eqb-true w 80 q)) (or_cases (eqb w 40) (eqb w 80) e)

pub cases_width : (w : ℕ) → (w ≡ 40) ⊎ (w ≡ 80) → widthb w ≡ true
cases_width w c = ⊎_elim (λ (q : w ≡ 40). rw q) (λ (q : w ≡ 80). rw q) c

pub width_from : (w : ℕ) → (w ≡ 40) ⊎ (w ≡ 80) → 40 ≤ w
width_from w c = ⊎_elim (λ (q : w ≡ 40). omega arith) (λ (q : w ≡ 80). omega arith) c

pub width_to : (w : ℕ) → (w ≡ 40) ⊎ (w ≡ 80) → w ≤ 80
width_to w c = ⊎_elim (λ (q : w ≡ 40). omega arith) (λ (q : w ≡ 80). omega arith) c
