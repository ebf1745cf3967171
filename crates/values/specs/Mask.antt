-- A mask of rows: row r is bit r, of value 2 ^ r.
-- Assumes nothing.
use Rattle.std.specs.Prelude.{ℕ, ◌+◌, ◌/◌, ◌%◌, ◌^◌, ◌<◌, ◌≡◌, Bool, eqb}

abbrev pub bit : ℕ → ℕ → ℕ
bit mask r = mask / 2 ^ r % 2

unfoldable pub has_row : ℕ → ℕ → Bool
has_row mask r = eqb (bit mask r) 1

-- m is the mask with the bit of row r set: that bit and no other
pub record WithRow (mask r m : ℕ) : Type 0 where
  pub here : bit m r ≡ 1
  pub others : (k : ℕ) → (k ≡ r → ⊥) → bit m k ≡ bit mask k
  -- over a mask of earlier rows
  pub sum : mask < 2 ^ r → m ≡ mask + 2 ^ r
