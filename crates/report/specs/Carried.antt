-- The rows of a mask: carried in a report, and put into others.
-- Assumes nothing.
use Rattle.std.specs.Prelude.{if◌then◌else◌, ℕ, zero, suc, ◌/◌, ◌%◌, Bool, true, false, List, [], ◌∷◌, eqb}
use Rattle.grid.specs.Screen.{Row}

-- the lowest k bits of a mask, row 0 first
unfoldable pub bits : ℕ → ℕ → List Bool
bits zero mask = []
bits (suc k) mask = eqb (mask % 2) 1 ∷ bits k (mask / 2)

-- the rows of a mask, lowest first
unfoldable pub carry : List Bool → List Row → List Row
carry [] rows = []
carry (b ∷ bs) [] = []
carry (b ∷ bs) (x ∷ rows) = if b then x ∷ carry bs rows else carry bs rows

-- the rows of a mask replaced by the carried ones
unfoldable pub merge : List Bool → List Row → List Row → List Row
merge [] carried rows = rows
merge (b ∷ bs) carried [] = []
merge (false ∷ bs) carried (x ∷ rows) = x ∷ merge bs carried rows
merge (true ∷ bs) [] (x ∷ rows) = x ∷ rows
merge (true ∷ bs) (y ∷ carried) (x ∷ rows) = y ∷ merge bs carried rows
