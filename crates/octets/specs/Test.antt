-- Tests of lists: of each element, of zero, of a byte.
-- Assumes nothing.
use Rattle.std.specs.Prelude.{ℕ, Bool, true, ◌&&◌, List, [], ◌∷◌, ltb, eqb}

unfoldable pub every {ℓ} : {A : Type ℓ} → (A → Bool) → List A → Bool
every p [] = true
every p (x ∷ xs) = p x && every p xs

unfoldable pub zerob : ℕ → Bool
zerob c = eqb c 0

-- what a lent slice holds: numbers below 256
unfoldable pub is_byte : ℕ → Bool
is_byte b = ltb b 256
