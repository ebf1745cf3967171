-- The bits of a mask: one that is set, and the others.
-- Assumes nothing.
use Prim.Native.Nat.{ℕ, ◌*◌, ◌/◌, ◌%◌, ◌^◌, ◌<◌}
use mathlib.Core.Path.{◌≡◌, ap, ◌∙◌}
use native.Mathlib.Nat.{mod-eq_of_lt, one-mul}
use native.Mathlib.Omega.{arith}
use lib.Pow.{pow-lt}
use lib.Dec.{eqb}
use lib.Bits.{bit_and, bit_or, or_shifted_r}
use Rattle.std.proofs.Common.{w32}
use Rattle.std.proofs.lemmas.Nat.Bits.{shr_and_one, bit_at_set_same, bit_at_set_other}
use Rattle.values.specs.Mask.{has_row, WithRow}

-- `has_row`
pub row_tested : (mask r : ℕ) → eqb (bit_and (mask / 2 ^ r) 1) 1 ≡ has_row mask r
unfolding has_row
row_tested mask r = ap (λ (x : ℕ). eqb x 1) (shr_and_one mask r)

-- `with_row`
pub row_set : (mask r : ℕ) → r < 32 → WithRow mask r (bit_or mask (1 * 2 ^ r % 4294967296))
row_set mask r h =
    record {
      here = bit_at_set_same w32 mask r h;
      others = bit_at_set_other w32 mask r h;
      sum =
          λ l.
          ap (bit_or mask) (mod-eq_of_lt {n = 1 * 2 ^ r} (rw one-mul (pow-lt {i = r} {j = 32} h))) ∙ or_shifted_r 1 r mask l ∙ omega arith;
    }
