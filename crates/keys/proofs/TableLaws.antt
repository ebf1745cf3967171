-- The key table: its test, and its macros and lengths as they are read out of it.
-- Assumes nothing.
use Prim.Native.Nat.{ℕ, ◌-◌, ◌≤◌, ◌<◌}
use mathlib.Core.Path.{◌≡◌, refl, ap, ◌∙◌}
use mathlib.Core.Bool.{false}
use mathlib.Core.List.{List, []}
use mathlib.Core.Logic.{◌≢◌}
use native.Mathlib.Omega.{arith}
use lib.ListN.{length, get_or, take, drop, length-drop}
use lib.Seq.{take_all}
use borrow.Author.Tests.{le-leb, lt-leb, eq-eqb, ne_eqb}
use Rattle.std.specs.List.{list_all, range_with_len}
use Rattle.std.proofs.lemmas.List.{get_or-map}
use Rattle.std.proofs.lemmas.List.FromFn.{fill_by_all}
use Rattle.octets.specs.Test.{every, zerob}
use Rattle.octets.specs.Table.{tabulate}
use Rattle.octets.proofs.Tables.{get_d_tabulate}
use Rattle.keys.specs.Keys.{TABLE_SIZE, MACRO_LEN, length_at, macro_at, valid_key, ten_keys, tableb, macros_of, lengths_of}

-- ---- the ten keys

ten_is : ten_keys ≡ tabulate (λ (k : ℕ). k) 10
unfolding ten_keys tabulate
ten_is = refl

pub ten_at : (k : ℕ) → k < 10 → get_or ten_keys k 0 ≡ k
ten_at k h = rw ten_is (get_d_tabulate (λ (i : ℕ). i) 10 k 0 h)

pub length_ten : length ten_keys ≡ 10
unfolding ten_keys
length_ten = refl

module _ (t : List ℕ) where
  pub macros_at : (k : ℕ) → k < 10 → get_or (macros_of t) k [] ≡ macro_at t k
  unfolding macros_of
  macros_at k h = get_or-map (macro_at t) ten_keys k 0 [] (omega (arith, length_ten)) ∙ ap (macro_at t) (ten_at k h)

  pub lengths_at : (k : ℕ) → k < 10 → get_or (lengths_of t) k 0 ≡ length_at t k
  unfolding lengths_of
  lengths_at k h = get_or-map (length_at t) ten_keys k 0 0 (omega (arith, length_ten)) ∙ ap (length_at t) (ten_at k h)

  -- ---- `macros_of` and `lengths_of`, when all ten keys are read

  pub macros_end : (all : List (List ℕ)) → length all ≡ 10 → ((k : ℕ) → k < 10 → get_or all k [] ≡ macro_at t k) → all ≡ macros_of t
  unfolding macros_of ten_keys
  macros_end all len each = fill_by_all (macro_at t) all 10 [] len each

  pub lengths_end : (all : List ℕ) → length all ≡ 10 → ((k : ℕ) → k < 10 → get_or all k 0 ≡ length_at t k) → all ≡ lengths_of t
  unfolding lengths_of ten_keys
  lengths_end all len each = fill_by_all (length_at t) all 10 0 len each

  -- ---- `key_ok`: n is the length that `length_at` has answered, m the macro that `macro_at` has

  pub key_long : (k : ℕ) → MACRO_LEN < length_at t k → valid_key t k ≡ false
  unfolding valid_key
  key_long k h = rw (lt-leb (length_at t k) MACRO_LEN h)

  pub key_rest : (k n : ℕ) (m : List ℕ) → length m ≡ MACRO_LEN → m ≡ macro_at t k → n ≡ length_at t k → n ≤ MACRO_LEN
      → every zerob (take (MACRO_LEN - n) (drop n m)) ≡ valid_key t k
  unfolding valid_key
  key_rest k n m len em is h = rw (← em, ← is, le-leb n MACRO_LEN h, take_all (MACRO_LEN - n) (drop n m) (omega (arith, len, length-drop n m)))

  -- ---- `table_ok`

  pub other_length : length t ≢ TABLE_SIZE → tableb t ≡ false
  unfolding tableb
  other_length ne = rw (ne_eqb (length t) TABLE_SIZE ne)

  pub ten_tested : length t ≡ TABLE_SIZE → list_all (valid_key t) (range_with_len 0 10) ≡ tableb t
  unfolding tableb ten_keys every
  ten_tested len = rw (eq-eqb (length t) TABLE_SIZE len)
