-- Numbers of several bytes, the highest first.
-- Assumes nothing.
use Rattle.std.specs.Prelude.{ℕ, ◌+◌, ◌*◌, ◌/◌, ◌%◌, List, [], ◌∷◌, get_or}

abbrev pub bytes2 : ℕ → List ℕ
bytes2 n = n / 256 % 256 ∷ n % 256 ∷ []

abbrev pub bytes4 : ℕ → List ℕ
bytes4 n = n / 16777216 % 256 ∷ n / 65536 % 256 ∷ n / 256 % 256 ∷ n % 256 ∷ []

abbrev pub number2 : ℕ → ℕ → ℕ
number2 a b = a * 256 + b

abbrev pub number4 : ℕ → ℕ → ℕ → ℕ → ℕ
number4 a b c d = a * 16777216 + b * 65536 + c * 256 + d

-- the number in the four bytes from index i on
abbrev pub four_at : List ℕ → ℕ → ℕ
four_at l i = number4 (get_or l i 0) (get_or l (i + 1) 0) (get_or l (i + 2) 0) (get_or l (i + 3) 0)
