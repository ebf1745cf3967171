-- Pairs compared: the order that `Pair` has is the one of `specs/Order`, and what is due by it.
-- Assumes nothing.
use Prim.Native.Nat.{◌+◌}
use mathlib.Core.Path.{◌≡◌, refl, sym, ◌∙◌}
use mathlib.Core.Bool.{Bool, true, false, not, ◌&&◌, or-false}
use mathlib.Core.Logic.{◌≢◌, inl, inr}
use native.Mathlib.Omega.{arith}
use lib.Dec.{ltb, eqb}
use borrow.Author.Tests.{eqb-true, eqb-false, eq-eqb, ne_eqb, ltb-false, le-ltb}
use Rattle.std.specs.Ordering.{partial_gt, partial_le, ord_max}
use Rattle.std.proofs.lemmas.Bool.Decides.{nat_tests}
use Rattle.octets.proofs.Bools.{and_left, and_right}
use Rattle.grid.specs.Pair.{next_pair}
use Rattle.grid.specs.declared.pair.Pair.{Pair}
use Rattle.grid.specs.contracts.pair.PairPartialOrd.TheImpl.{partial_cmp-value}
use Rattle.grid.specs.contracts.pair.PairOrd.TheImpl.{cmp-value}
use Rattle.report.specs.declared.kind.Kind.TheVariants.{Step, Full}
use Rattle.mirror.specs.Order.{same_pair, later, latest}
use Rattle.mirror.specs.Mirror.{due_at}
use Rattle.mirror.specs.Refusals.{AtMost}
use Rattle.mirror.specs.Count.{is_later}
use Rattle.mirror.proofs.OneOrder.{later_is}

-- ---- as they are compared in the code

pub gt_is : (p q : Pair) → partial_gt partial_cmp-value.it p q ≡ later p q
unfolding later
gt_is p q = grind (arith, nat_tests)

pub le_is : (p q : Pair) → partial_le partial_cmp-value.it p q ≡ not (later p q)
unfolding later
le_is p q = grind (arith, nat_tests)

pub max_is : (p q : Pair) → ord_max cmp-value.it p q ≡ latest p q
unfolding latest later
max_is p q = grind (arith, nat_tests)

-- ---- equal

pub same_pair_is : (p q : Pair) → same_pair p q ≡ true → p ≡ q
unfolding same_pair
same_pair_is p q e =
    let a = eqb-true _ _ (and_left (eqb p.sitting q.sitting) _ e) in
    let b = eqb-true _ _ (and_right (eqb p.sitting q.sitting) _ e) in
    λ i. record { sitting = a i; serial = b i }

-- ---- later

pub later_serial : (p q : Pair) → p.sitting ≡ q.sitting → ltb q.serial p.serial ≡ later p q
unfolding is_later
later_serial p q e =
    sym (rw (eq-eqb p.sitting q.sitting e, le-ltb q.sitting p.sitting (omega arith)) refl) ∙ sym (later_is p q)

pub later_sitting : (p q : Pair) → p.sitting ≢ q.sitting → ltb q.sitting p.sitting ≡ later p q
unfolding is_later
later_sitting p q ne = sym (or-false _) ∙ sym (rw (ne_eqb p.sitting q.sitting ne) refl) ∙ sym (later_is p q)

-- ---- due

pub step_due : (p q : Pair) → due_at Step p q ≡ eqb p.sitting q.sitting && eqb p.serial (q.serial + 1)
unfolding due_at same_pair next_pair
step_due p q = refl

pub full_due : (p q : Pair) → due_at Full p q ≡ later p q
unfolding due_at
full_due p q = refl

-- ---- at most

pub at_most : (p q : Pair) → later p q ≡ false → AtMost p q
unfolding AtMost
at_most p q n = go (eqb p.sitting q.sitting) refl
  where
    go : (b : Bool) → eqb p.sitting q.sitting ≡ b → AtMost p q
    go true e =
        let s = eqb-true _ _ e in
        inr (s, ltb-false _ _ (later_serial p q s ∙ n))
    go false e =
        let s = eqb-false p.sitting q.sitting e in
        let h = ltb-false q.sitting p.sitting (later_sitting p q s ∙ n) in
        inl (omega arith)

pub not_later : (p q : Pair) → AtMost p q → later p q ≡ false
unfolding AtMost
not_later p q (inl h) = sym (later_sitting p q (λ e. omega arith)) ∙ le-ltb q.sitting p.sitting (omega arith)
not_later p q (inr (e, h)) = sym (later_serial p q e) ∙ le-ltb q.serial p.serial h
