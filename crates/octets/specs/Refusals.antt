-- Document 01, "What a call answers", and document 02, which puts further refusals between the first six: the order in which refusals are looked for,
-- and what it means that a call is refused by it.
-- Assumes nothing.
use Rattle.std.specs.Prelude.{if◌then◌else◌, ℕ, suc, ◌<◌, ◌≡◌, Bool, true, ◌&&◌, List, [], ◌∷◌, ◌↔◌, eqb}
use Rattle.octets.specs.Answer.{refused}

-- ---- the order

unfoldable pub order : List ℕ
order = 1 ∷ 2 ∷ 3 ∷ 7 ∷ 8 ∷ 13 ∷ 14 ∷ 4 ∷ 5 ∷ 6 ∷ 9 ∷ 10 ∷ 11 ∷ 12 ∷ []

-- where k stands in a list: behind its end, if k is not in it
unfoldable pub place_in : List ℕ → ℕ → ℕ
place_in [] k = 0
place_in (x ∷ xs) k = if eqb x k then 0 else suc (place_in xs k)

-- refusal j is looked for before refusal k
abbrev pub Before : ℕ → ℕ → Type 0
Before j k = place_in order j < place_in order k

-- ---- the number that a call answers, where C k says that condition k holds

pub record Refuses (C : ℕ → Type 0) (number : ℕ) : Type 0 where
  -- it is that of refusal k exactly when condition k holds and none before it
  pub refusal : (k : ℕ) → (number ≡ refused k) ↔ (C k × ((j : ℕ) → Before j k → ¬ C j))
  -- it is below that of every refusal exactly when none holds
  pub accepted : (number < refused 1) ↔ ((k : ℕ) → ¬ C k)

-- ---- the search: tests in their order, each with the number of the refusal if it fails

-- the number of the first that fails, 0 if none does
unfoldable pub first_of : List (ℕ × Bool) → ℕ
first_of [] = 0
first_of ((k, passes) ∷ tests) = if passes then first_of tests else k

-- all pass
unfoldable pub all_pass : List (ℕ × Bool) → Bool
all_pass [] = true
all_pass ((k, passes) ∷ tests) = passes && all_pass tests

-- of two such numbers the first that is a refusal's
unfoldable pub or_else : ℕ → ℕ → ℕ
or_else n m = if eqb n 0 then m else n
