-- `refusal`: what `record` finds, and what is so where it finds nothing.
-- Assumes nothing.
use Prim.Native.Nat.{ℕ}
use mathlib.Core.Path.{◌≡◌, refl, sym}
use mathlib.Core.Bool.{Bool, true, false, ◌&&◌}
use mathlib.Core.List.{List, [], ◌∷◌}
use native.Mathlib.Omega.{arith}
use mathlib.Core.Logic.{◌≢◌, ⊎_elim}
use lib.Dec.{eqb}
use lib.ListN.{length}
use borrow.Author.Tests.{eq-eqb, ne_eqb, eqb-true, eqb-false}
use Rattle.std.specs.Prelude.{if◌then◌else◌}
use Rattle.octets.specs.Refusals.{order, place_in, first_of, all_pass}
use Rattle.std.proofs.lemmas.Bool.{and_cases}
use Rattle.octets.proofs.Bools.{and_left, and_right, and_false, left_false}
use Rattle.octets.proofs.Found.{First, Fails, none_first, ordered, none_fails}
use Rattle.octets.proofs.Found.Fails.{here, there}
use Rattle.octets.proofs.Found.First.{now, later}
use Rattle.grid.specs.Layout.{SIZE}
use Rattle.grid.specs.Record.{validb}
use Rattle.grid.specs.Conditions.{ValidRecord}
use Rattle.grid.specs.Facts.{Valid}
use Rattle.grid.specs.Refusals.{record_tests}
use Rattle.grid.proofs.Validity.{valid_facts}
use Rattle.grid.proofs.Conditions.{not_valid}

-- `record`: the slice has another length, or the length of a record
module _ (l : List ℕ) (lengths : Bool) where
  pub size_refused : (length l ≡ SIZE → ⊥) → first_of (record_tests lengths l) ≡ 1
  unfolding record_tests first_of
  size_refused ne = rw (ne_eqb (length l) SIZE ne)

  pub tests_left : length l ≡ SIZE → first_of (record_tests lengths l) ≡ (if lengths then (if validb l then 0 else 2) else 1)
  unfolding record_tests first_of
  tests_left e = rw (eq-eqb (length l) SIZE e)

  pub record_ordered : ordered 0 (record_tests lengths l) ≡ true
  unfolding record_tests ordered place_in order
  record_ordered = refl

-- ---- what is so of an accepted call

pub record Taken (lengths : Bool) (l : List ℕ) : Type 0 where
  pub size : length l ≡ SIZE
  pub valid : Valid l
  pub lengths_taken : lengths ≡ true
  pub none : first_of (record_tests lengths l) ≡ 0

pub tests_taken : (lengths : Bool) (l : List ℕ) → all_pass (record_tests lengths l) ≡ true → first_of (record_tests lengths l) ≡ 0 → Taken lengths l
unfolding record_tests all_pass
tests_taken lengths l e none =
    let first = and_left (eqb (length l) SIZE && lengths) _ e in
    let second = and_left (validb l) true (and_right (eqb (length l) SIZE && lengths) _ e) in
    record {
      size = eqb-true _ _ (and_left (eqb (length l) SIZE) lengths first);
      valid = valid_facts l second;
      lengths_taken = and_right (eqb (length l) SIZE) lengths first;
      none = none;
    }

pub taken : (lengths : Bool) (l : List ℕ) → first_of (record_tests lengths l) ≡ 0 → Taken lengths l
taken lengths l e = tests_taken lengths l (none_fails 0 (record_tests lengths l) (record_ordered l lengths) e) e

-- where `record` has refused nothing
module _ (lengths : Bool) (l : List ℕ) (none : 0 ≡ first_of (record_tests lengths l)) where
  pub valid_known : Valid l
  valid_known = (taken lengths l (sym none)).valid

  pub lengths_known : lengths ≡ true
  lengths_known = (taken lengths l (sym none)).lengths_taken

-- ---- the conditions behind the tests: C is what a call's conditions say of them

module _ (C : ℕ → Type 0) (l : List ℕ) (lengths : Bool) (size : length l ≢ SIZE → C 1) (other : lengths ≡ false → C 1) (layout : ¬ ValidRecord l → C 2) where
  pub record_sound : (k : ℕ) → First (record_tests lengths l) k → C k
  unfolding record_tests
  record_sound k (now e) = ⊎_elim (λ n. size (eqb-false _ _ n)) other (and_cases (eqb (length l) SIZE) lengths e)
  record_sound k (later p (now e)) = layout ((not_valid l).1 e)
  record_sound k (later p (later q f)) = none_first f

module _ (l : List ℕ) (lengths : Bool) where
  pub size_fails : length l ≢ SIZE → Fails (record_tests lengths l) 1
  unfolding record_tests
  size_fails n = here (left_false (eqb (length l) SIZE) lengths (ne_eqb _ _ n))

  pub other_fails : lengths ≡ false → Fails (record_tests lengths l) 1
  unfolding record_tests
  other_fails e = here (and_false (eqb (length l) SIZE) lengths e)

  pub layout_fails : ¬ ValidRecord l → Fails (record_tests lengths l) 2
  unfolding record_tests
  layout_fails n = there (here ((not_valid l).0 n))

-- ---- `in_range`

pub range_tested : (ok : Bool) → 0 ≡ first_of ((3, ok) ∷ []) → ok ≡ true
unfolding first_of
range_tested true e = refl
range_tested false e = absurd (omega arith)
