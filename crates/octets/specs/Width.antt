-- The two widths.
-- Assumes nothing.
use Rattle.std.specs.Prelude.{ℕ, ◌≡◌, Bool, ◌||◌, ◌⊎◌, eqb}

abbrev pub IsWidth : ℕ → Type 0
IsWidth w = (w ≡ 40) ⊎ (w ≡ 80)

-- the test of it
abbrev pub widthb : ℕ → Bool
widthb w = eqb w 40 || eqb w 80
