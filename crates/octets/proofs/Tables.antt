-- A list from its values.
-- Assumes nothing.
use mathlib.Core.Path.{◌≡◌, refl, ap, ◌∙◌}
use mathlib.Core.List.{[], ◌∷◌}
use mathlib.Core.Logic.{⊎_elim}
use Prim.Native.Nat.{ℕ, zero, suc, ◌+◌, ◌<◌}
use native.Mathlib.Nat.{le_of_suc-le-suc, not-suc-le-zero, eq-or-lt_of_le}
use native.Mathlib.Numerals.{add-one}
use lib.ListN.{length, get_or, length-append, get_or-append}
use lib.Seq.{get_or_at}
use Rattle.octets.specs.Table.{tabulate}

module _ {ℓ} {A : Type ℓ} (f : ℕ → A) where
  pub length_tabulate : (n : ℕ) → length (tabulate f n) ≡ n
  unfolding tabulate
  length_tabulate zero = refl
  length_tabulate (suc n) = length-append (tabulate f n) (f n ∷ []) ∙ ap (λ (k : ℕ). k + 1) (length_tabulate n) ∙ add-one n

  pub get_d_tabulate : (n i : ℕ) (d : A) → i < n → get_or (tabulate f n) i d ≡ f i
  unfolding tabulate
  get_d_tabulate zero i d h = absurd (not-suc-le-zero h)
  get_d_tabulate (suc n) i d h =
      ⊎_elim
      (λ (e : i ≡ n). rw e (get_or_at (tabulate f n) (f n) [] d n (length_tabulate n)))
      (λ (lt : i < n). get_or-append (tabulate f n) (f n ∷ []) d i (rw length_tabulate lt) ∙ get_d_tabulate n i d lt)
      (eq-or-lt_of_le (le_of_suc-le-suc h))
