-- The order by which arrivals are counted is an order: the later of two pairs is the least that both are at most.
-- Assumes nothing.
use mathlib.Core.Path.{◌≡◌, refl, sym, ap, ◌∙◌}
use mathlib.Core.Bool.{Bool, true, false, ◌&&◌}
use mathlib.Core.Logic.{◌⊎◌, inl, inr}
use native.Mathlib.Omega.{arith}
use lib.Dec.{ltb, eqb}
use borrow.Author.Tests.{eqb-true, ltb-true}
use Rattle.std.specs.Prelude.{if◌then◌else◌}
use Rattle.std.proofs.lemmas.Bool.{or_cases}
use Rattle.octets.proofs.Bools.{cases, either, and_left, and_right}
use Rattle.grid.specs.declared.pair.Pair.{Pair}
use Rattle.mirror.specs.Order.{latest}
use Rattle.mirror.specs.Refusals.{AtMost}
use Rattle.mirror.specs.Count.{is_later, later_of}
use Rattle.mirror.proofs.OneOrder.{later_is}
use Rattle.mirror.proofs.OrderLaws.{at_most}

-- ---- the later of two, as the mirror has it and as it is counted

pub latest_is : (p q : Pair) → latest p q ≡ later_of q p
unfolding latest later_of
latest_is p q = ap (λ (b : Bool). if b then q else p) (later_is q p)

-- ---- at most

pub most : (p q : Pair) → is_later p q ≡ false → AtMost p q
most p q e = at_most p q (later_is p q ∙ e)

later_most : (p q : Pair) → is_later p q ≡ true → AtMost q p
unfolding is_later AtMost
later_most p q e = go (or_cases (ltb q.sitting p.sitting) _ e)
  where
    go : (ltb q.sitting p.sitting ≡ true) ⊎ (eqb p.sitting q.sitting && ltb q.serial p.serial ≡ true) → AtMost q p
    go (inl x) = inl (ltb-true _ _ x)
    go (inr x) =
        let s = eqb-true p.sitting q.sitting (and_left (eqb p.sitting q.sitting) _ x) in
        let h = ltb-true q.serial p.serial (and_right (eqb p.sitting q.sitting) _ x) in
        inr (sym s, omega arith)

pub most_refl : (p : Pair) → AtMost p p
unfolding AtMost
most_refl p = inr (refl, omega arith)

pub most_trans : (p q r : Pair) → AtMost p q → AtMost q r → AtMost p r
unfolding AtMost
most_trans p q r (inl h) (inl k) = inl (omega arith)
most_trans p q r (inl h) (inr (e, k)) = inl (omega arith)
most_trans p q r (inr (d, h)) (inl k) = inl (omega arith)
most_trans p q r (inr (d, h)) (inr (e, k)) = inr (d ∙ e, omega arith)

pub most_both : (p q : Pair) → AtMost p q → AtMost q p → p ≡ q
unfolding AtMost
most_both p q (inl h) (inl k) = absurd (omega arith)
most_both p q (inl h) (inr (e, k)) = absurd (omega arith)
most_both p q (inr (d, h)) (inl k) = absurd (omega arith)
most_both p q (inr (d, h)) (inr (e, k)) =
    let s : p.serial ≡ q.serial = omega arith in
    λ i. record { sitting = d i; serial = s i }

-- ---- the later of two

pub later_left : (p q : Pair) → AtMost p (later_of p q)
unfolding later_of
later_left p q = cases (AtMost p) (is_later p q) p q (λ e. most_refl p) (λ e. most p q e)

pub later_right : (p q : Pair) → AtMost q (later_of p q)
unfolding later_of
later_right p q = cases (AtMost q) (is_later p q) p q (λ e. later_most p q e) (λ e. most_refl q)

pub later_least : (p q r : Pair) → AtMost p r → AtMost q r → AtMost (later_of p q) r
unfolding later_of
later_least p q r h k = either (λ (x : Pair). AtMost x r) (is_later p q) p q h k

later_over : (p q r : Pair) → AtMost (later_of p (later_of q r)) (later_of q (later_of p r))
later_over p q r =
    let up : AtMost (later_of p r) (later_of q (later_of p r)) = later_right q (later_of p r) in
    later_least p (later_of q r) _ (most_trans _ _ _ (later_left p r) up)
    (later_least q r _ (later_left q (later_of p r)) (most_trans _ _ _ (later_right p r) up))

pub later_swap : (p q r : Pair) → later_of p (later_of q r) ≡ later_of q (later_of p r)
later_swap p q r = most_both _ _ (later_over p q r) (later_over q p r)
