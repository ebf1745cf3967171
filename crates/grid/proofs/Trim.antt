-- A list without its trailing spaces, one element at a time from the right.
-- Assumes nothing.
use Prim.Native.Nat.{ℕ, zero, suc, ◌-◌, ◌<◌, ◌≤◌}
use mathlib.Core.Path.{◌≡◌, refl, sym, ap, ◌∙◌}
use mathlib.Core.Bool.{Bool, true, false, ◌&&◌}
use mathlib.Core.List.{List, [], ◌∷◌, ◌++◌, append-nil}
use native.Mathlib.Omega.{arith}
use lib.ListN.{length, get_or, take, replicate}
use lib.Seq.{take-suc, take_all, length-take-le, append_snoc}
use Rattle.std.specs.Prelude.{if◌then◌else◌}
use Rattle.grid.specs.Screen.{is_empty, trim_by}
use Rattle.octets.proofs.Bools.{either}

module _ (p : ℕ → Bool) where
  pub trim_out : (xs : List ℕ) (c : ℕ) → p c ≡ true → trim_by p (xs ++ (c ∷ [])) ≡ trim_by p xs
  unfolding trim_by is_empty
  trim_out [] c e = rw e
  trim_out (x ∷ xs) c e = rw (trim_out xs c e)

  not_empty : (xs : List ℕ) (c : ℕ) → is_empty (xs ++ (c ∷ [])) ≡ false
  unfolding is_empty
  not_empty [] c = refl
  not_empty (x ∷ xs) c = refl

  pub trim_in : (xs : List ℕ) (c : ℕ) → p c ≡ false → trim_by p (xs ++ (c ∷ [])) ≡ xs ++ (c ∷ [])
  unfolding trim_by is_empty
  trim_in [] c e = rw e
  trim_in (x ∷ xs) c e = rw (trim_in xs c e, not_empty xs c) (pick (p x))
    where
      pick : (b : Bool) → (if b && false then [] else x ∷ (xs ++ (c ∷ []))) ≡ x ∷ (xs ++ (c ∷ []))
      pick true = refl
      pick false = refl

  -- what is left is the front
  pub trim_front : (xs : List ℕ) → take (length (trim_by p xs)) xs ≡ trim_by p xs
  unfolding trim_by
  trim_front [] = refl
  trim_front (x ∷ xs) =
      either (λ (t : List ℕ). take (length t) (x ∷ xs) ≡ t) (p x && is_empty (trim_by p xs)) [] (x ∷ trim_by p xs) refl
      (ap (λ (t : List ℕ). x ∷ t) (trim_front xs))

  -- a run of elements at the end that pass
  pub trim_run : (k c : ℕ) (xs : List ℕ) → p c ≡ true → trim_by p (xs ++ replicate k c) ≡ trim_by p xs
  trim_run zero c xs e = ap (trim_by p) (append-nil xs)
  trim_run (suc k) c xs e = ap (trim_by p) (sym (append_snoc xs c (replicate k c))) ∙ trim_run k c (xs ++ (c ∷ [])) e ∙ trim_out xs c e

  pub trim_le : (xs : List ℕ) → length (trim_by p xs) ≤ length xs
  unfolding trim_by
  trim_le [] = omega arith
  trim_le (x ∷ xs) =
      either (λ (t : List ℕ). length t ≤ suc (length xs)) (p x && is_empty (trim_by p xs)) [] (x ∷ trim_by p xs) (omega arith) (omega (arith, trim_le xs))

-- ---- `length_without`

-- what is found is the length without the elements at the end that pass
trimmed : (p : ℕ → Bool) (cs : List ℕ) (w n : ℕ) → w ≤ length cs → n ≤ w → (0 < n → p (get_or cs (n - 1) 0) ≡ false)
    → ((k : ℕ) → n ≤ k → k < w → p (get_or cs k 0) ≡ true) → n ≡ length (trim_by p (take w cs))
unfolding trim_by
trimmed p cs zero n a h stop none = omega arith
trimmed p cs (suc w) n a h stop none =
    let last : take (suc w) cs ≡ take w cs ++ (get_or cs w 0 ∷ []) = take-suc cs w 0 a in
    let same : suc w - 1 ≡ w = omega arith in
    let on : n ≤ w → n ≡ length (trim_by p (take w cs)) = λ b. trimmed p cs w n (omega arith) b stop (λ k c d. none k c (omega arith)) in
    let out : n ≤ w → trim_by p (take (suc w) cs) ≡ trim_by p (take w cs) =
    λ b. ap (trim_by p) last ∙ trim_out p (take w cs) _ (none w b (omega arith)) in
    let whole : n ≡ suc w → length (trim_by p (take (suc w) cs)) ≡ suc w =
    λ e. ap (λ (x : List ℕ). length (trim_by p x)) last ∙ ap length (trim_in p (take w cs) _ (rw (e, same) at (stop (omega (arith, e)))))
    ∙ ap length (sym last) ∙ length-take-le (suc w) cs a in
    grind (arith, on, out, whole)

pub length_found : (p : ℕ → Bool) (cs : List ℕ) (n : ℕ) → n ≤ length cs → (0 < n → p (get_or cs (n - 1) 0) ≡ false)
    → ((k : ℕ) → n ≤ k → k < length cs → p (get_or cs k 0) ≡ true) → n ≡ length (trim_by p cs)
length_found p cs n h stop none =
    trimmed p cs (length cs) n (omega arith) h stop none ∙ ap (λ (xs : List ℕ). length (trim_by p xs)) (take_all (length cs) cs (omega arith))
