-- The rows that a text takes.
-- Assumes nothing.
use Prim.Native.Nat.{ℕ, ◌+◌, ◌-◌, ◌/◌, ◌%◌, ◌≤◌, ◌<◌, max}
use mathlib.Core.Path.{◌≡◌, sym, ap, ◌∙◌}
use mathlib.Core.Bool.{Bool, true, false, ◌&&◌}
use native.Mathlib.Nat.{div-lt_iff_lt-mul, le-div_iff_mul-le}
use native.Mathlib.Omega.{arith}
use lib.Dec.{ltb, eqb}
use mir.Syntax.{w64}
use mir.Val.{Fits}
use borrow.Author.Tests.{lt-ltb, le-ltb, eq-eqb, ne_eqb}
use Rattle.std.specs.Prelude.{if◌then◌else◌}
use Rattle.std.proofs.lemmas.Bool.{cond-true as pick, cond-false as skip}
use Rattle.line.specs.Line.{MAX-LOGICAL}
use Rattle.line.specs.Splice.{rows_for}
use Rattle.line.specs.Plan.{Count}

-- ---- rows_for

module _ (w n i : ℕ) (low : 40 ≤ w) (fits : n ≤ MAX-LOGICAL) where
  ceil : ℕ
  ceil = (n + w - 1) / w

  -- one row more?
  test : Bool
  test = ltb 0 n && (eqb i n && eqb (n % w) 0)

  ceil_to : ceil < 8
  unfolding ceil
  ceil_to = (div-lt_iff_lt-mul {k = w} (omega arith)).1 (omega arith)

  counted : (k more : ℕ) → (if test then 1 else 0) ≡ more → more ≤ 1 → k ≡ max 1 ceil + more → Count w n i k
  unfolding rows_for test ceil
  counted k more e h q =
      record { is = q ∙ ap (λ (x : ℕ). max 1 ((n + w - 1) / w) + x) (sym e); low = omega arith; high = omega (arith, ceil_to) }

  pub count_none : n ≡ 0 → Count w n i 1
  unfolding test ceil
  count_none e =
      let z : ceil < 2 = (div-lt_iff_lt-mul {k = w} (omega arith)).1 (omega arith) in
      let t : test ≡ false = rw (le-ltb 0 n (omega arith)) in
      counted 1 0 (skip test 1 0 t) (omega arith) (omega arith)

  pub count_fits : Fits w64 ((n + w - 1) / w + 1)
  unfolding ceil
  count_fits = record { fits = omega (arith, ceil_to) }

  module _ (ne : n ≡ 0 → ⊥) where
    ceil_from : 1 ≤ ceil
    unfolding ceil
    ceil_from = (le-div_iff_mul-le {k = w} (omega arith)).1 (omega arith)

    pub count_inside : (i ≡ n → ⊥) → Count w n i ((n + w - 1) / w)
    unfolding test ceil
    count_inside h =
        let t : test ≡ false = rw (lt-ltb 0 n (omega arith), ne_eqb i n h) in
        counted ceil 0 (skip test 1 0 t) (omega arith) (omega (arith, ceil_from))

    pub count_part : i ≡ n → (n % w ≡ 0 → ⊥) → Count w n i ((n + w - 1) / w)
    unfolding test ceil
    count_part e h =
        let t : test ≡ false = rw (lt-ltb 0 n (omega arith), eq-eqb i n e, ne_eqb (n % w) 0 h) in
        counted ceil 0 (skip test 1 0 t) (omega arith) (omega (arith, ceil_from))

    pub count_full : i ≡ n → n % w ≡ 0 → Count w n i ((n + w - 1) / w + 1)
    unfolding test ceil
    count_full e h =
        let t : test ≡ true = rw (lt-ltb 0 n (omega arith), eq-eqb i n e, eq-eqb (n % w) 0 h) in
        counted (ceil + 1) 1 (pick test 1 0 t) (omega arith) (omega (arith, ceil_from))
