-- Bytes in the middle of a list.
-- Assumes nothing.
use Rattle.std.specs.Prelude.{ℕ, zero, suc, List, [], ◌∷◌, take, drop}

-- n bytes from index a on
unfoldable pub window : List ℕ → ℕ → ℕ → List ℕ
window l a n = take n (drop a l)

-- l with the list s written over it from index a on, as far as l goes: so that most laws have no side condition
unfoldable pub write : List ℕ → ℕ → List ℕ → List ℕ
write [] a s = []
write (x ∷ l) (suc a) s = x ∷ write l a s
write (x ∷ l) zero [] = x ∷ l
write (x ∷ l) zero (y ∷ s) = y ∷ write l zero s
