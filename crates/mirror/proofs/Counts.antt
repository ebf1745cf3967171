-- The count of kinds and pairs: the shown pair is at most the newest and never goes back, the newest is the latest, and what a step of the next serial and a
-- full report do to it.
-- Assumes nothing.
use Prim.Native.Nat.{ℕ, ◌+◌}
use mathlib.Core.Path.{◌≡◌, refl, sym, ap, ◌∙◌}
use mathlib.Core.Bool.{Bool, ◌&&◌}
use mathlib.Core.List.{List, [], ◌∷◌, foldl}
use mathlib.Core.Logic.{inr}
use native.Mathlib.Omega.{arith}
use lib.Dec.{eqb}
use borrow.Author.Tests.{eqb-true, eq-eqb}
use Rattle.std.specs.Prelude.{if◌then◌else◌}
use Rattle.std.proofs.lemmas.Bool.{cond-true as pick}
use Rattle.octets.proofs.Bools.{cases, either, and_left, and_right, and_both}
use Rattle.grid.specs.Pair.{next_pair}
use Rattle.grid.specs.declared.pair.Pair.{Pair}
use Rattle.report.specs.declared.kind.Kind.{Kind}
use Rattle.report.specs.declared.kind.Kind.TheVariants.{Step, Full}
use Rattle.mirror.specs.Order.{same_pair}
use Rattle.mirror.specs.Mirror.{due_at}
use Rattle.mirror.specs.Refusals.{AtMost}
use Rattle.mirror.specs.Count.{later_of, Heard, Count, shown_after, counted, start, tally}
use Rattle.mirror.specs.Demand3.{latest_of}
use Rattle.mirror.proofs.OneOrder.{later_is}
use Rattle.mirror.proofs.Later.{most_refl, most_trans, most_both, later_left, later_right, later_least, later_swap}

-- THE LAW that joins the count to arrival: what is shown is counted up exactly by the reports that arrival applies
pub shown_due : (kind : Kind) (p q : Pair) → shown_after kind p q ≡ (if due_at kind p q then p else q)
unfolding shown_after due_at same_pair next_pair later_of
shown_due Step p q = refl
shown_due Full p q = ap (λ (b : Bool). if b then p else q) (sym (later_is p q))

-- ---- what is shown

shown_most : (kind : Kind) (p m n : Pair) → AtMost m n → AtMost (shown_after kind p m) (later_of p n)
unfolding shown_after
shown_most Step p m n h = either (λ (x : Pair). AtMost x (later_of p n)) _ _ _ (later_left p n) (most_trans m n _ h (later_right p n))
shown_most Full p m n h = later_least p m _ (later_left p n) (most_trans m n _ h (later_right p n))

shown_on : (kind : Kind) (p m : Pair) → AtMost m (shown_after kind p m)
unfolding shown_after AtMost
shown_on Step p m =
    cases (AtMost m) (eqb p.sitting m.sitting && eqb p.serial (m.serial + 1)) p m
    (λ e.
    let s = eqb-true p.sitting m.sitting (and_left (eqb p.sitting m.sitting) _ e) in
    let n = eqb-true p.serial (m.serial + 1) (and_right (eqb p.sitting m.sitting) _ e) in
    inr (sym s, omega arith))
    (λ e. most_refl m)
shown_on Full p m = later_right p m

-- ---- one report

pub counted_most : (t : Count) (h : Heard) → AtMost t.shown t.newest → AtMost (counted t h).shown (counted t h).newest
unfolding counted
counted_most t h l = shown_most h.kind h.pair t.shown t.newest l

pub counted_on : (t : Count) (h : Heard) → AtMost t.shown (counted t h).shown
unfolding counted
counted_on t h = shown_on h.kind h.pair t.shown

pub counted_full : (t : Count) (h : Heard) → h.kind ≡ Full → AtMost h.pair (counted t h).shown
unfolding counted shown_after
counted_full t h k = rw k (later_left h.pair t.shown)

pub counted_next : (t : Count) (h : Heard) → h.kind ≡ Step → h.pair ≡ next_pair t.shown → (counted t h).shown ≡ next_pair t.shown
unfolding counted shown_after next_pair
counted_next t h k e =
    rw k
    (pick _ _ _ (and_both _ _ (eq-eqb _ _ (ap (λ (x : Pair). x.sitting) e)) (eq-eqb _ _ (ap (λ (x : Pair). x.serial) e))) ∙ e)

pub counted_level : (t : Count) (h : Heard) → h.kind ≡ Full → AtMost t.shown t.newest → AtMost t.newest h.pair
    → (counted t h).shown ≡ (counted t h).newest
unfolding counted
counted_level t h k l q =
    let up : AtMost h.pair (counted t h).shown = counted_full t h k in
    most_both _ _ (counted_most t h l) (later_least h.pair t.newest _ up (most_trans _ _ _ q up))

-- what the two pairs before and the report's pair are, those after are
pub counted_are : (P : Pair → Type 0) (t : Count) (h : Heard) → P t.shown → P t.newest → P h.pair
    → P (counted t h).shown × P (counted t h).newest
unfolding counted later_of
counted_are P t h m n p = (shown_is h.kind, either P _ _ _ p n)
  where
    shown_is : (kind : Kind) → P (shown_after kind h.pair t.shown)
    shown_is Step = unfold shown_after in either P _ _ _ p m
    shown_is Full = unfold shown_after later_of in either P _ _ _ p m

-- ---- all of them

pub fold_on : (hs : List Heard) (t : Count) → AtMost t.shown (foldl counted t hs).shown
fold_on [] t = most_refl t.shown
fold_on (h ∷ hs) t = most_trans _ _ _ (counted_on t h) (fold_on hs (counted t h))

latest_later : (hs : List Heard) (p q : Pair) → latest_of (later_of p q) hs ≡ later_of p (latest_of q hs)
unfolding latest_of
latest_later [] p q = refl
latest_later (h ∷ hs) p q = ap (later_of h.pair) (latest_later hs p q) ∙ later_swap h.pair p (latest_of q hs)

fold_latest : (hs : List Heard) (t : Count) → (foldl counted t hs).newest ≡ latest_of t.newest hs
unfolding counted latest_of
fold_latest [] t = refl
fold_latest (h ∷ hs) t = fold_latest hs (counted t h) ∙ latest_later hs h.pair t.newest

pub tally_latest : (number : ℕ) (hs : List Heard) → (tally number hs).newest ≡ latest_of (start number) hs
unfolding tally
tally_latest number hs = fold_latest hs (record { shown = start number; newest = start number })
