-- New mirror and an arrival are refused exactly by the documents' conditions, in the order of refusals, and do what the rules say otherwise.
-- Assumes nothing.
use Prim.Native.Nat.{ℕ, ◌+◌, ◌≤◌, ◌<◌}
use mathlib.Core.Path.{◌≡◌, refl, sym, ap, ◌∙◌, subst}
use mathlib.Core.Bool.{Bool, true, false, not, ◌&&◌}
use mathlib.Core.List.{List, [], ◌∷◌}
use mathlib.Core.Logic.{◌≢◌}
use native.Mathlib.Omega.{arith}
use lib.Dec.{eqb}
use lib.ListN.{length, get_or, drop}
use borrow.Author.Tests.{eqb-true, eqb-false, eq-eqb, ne_eqb, not-true, not-false}
use Rattle.std.specs.Prelude.{if◌then◌else◌}
use Rattle.octets.specs.Answer.{refused, Written, unless}
use Rattle.octets.specs.Number.{four_at}
use Rattle.octets.specs.Refusals.{order, place_in, Refuses, first_of}
use Rattle.octets.proofs.Bools.{and_left, and_right, and_both, fails, either}
use Rattle.octets.proofs.Found.{Fails, First, Found, found, none_first, ordered, answered}
use Rattle.octets.proofs.Found.Fails.{here, there}
use Rattle.octets.proofs.Found.First.{now, later}
use Rattle.grid.specs.Record.{head_at, head_of, pair_of, stamp_of, read_state}
use Rattle.grid.specs.Pair.{pair_at, next_pair}
use Rattle.report.specs.Layout.{KIND, REPORT-PAIR, MASK, HEAD, STEP, ALL-ROWS}
use Rattle.report.specs.declared.kind.Kind.{Kind}
use Rattle.report.specs.Report.{read_front, read_report, reportb}
use Rattle.report.specs.Refusals.{KindFits, ValidReport}
use Rattle.report.specs.Refusals.KindFits.{step, full}
use Rattle.report.proofs.Conditions.{report_facts, facts_report}
use Rattle.report.proofs.KindLaws.{step_byte}
use Rattle.mirror.specs.Layout.{MIRROR-SIZE, RECORD}
use Rattle.mirror.specs.Mirror.Arrived.{Refused, Noted, Applied}
use Rattle.mirror.specs.Mirror.{new_mirror, mirror_bytes, read_mirror, due_at, due, width_without_rows, noted, applied, taken, level_of, leaving, mirrorb, creating_mirror, arrival_tests, arrived, arrived_outcome, arrival}
use Rattle.mirror.specs.Refusals.{ValidMirror, NewMirrorRefused, CreatingMirrorAnswers, WidthWithoutRows, ArrivalRefused, ArrivalAnswers}
use Rattle.mirror.specs.Refusals.NewMirrorRefused.{mirror_length as new-length}
use Rattle.mirror.specs.Refusals.ArrivalRefused.{mirror_length, mirror_layout, report_layout, other_width}
use Rattle.mirror.specs.Order.{same_pair}
use Rattle.mirror.proofs.Conditions.{mirror_facts, facts_mirror}
use Rattle.mirror.proofs.ArriveLeft.{arrival_ordered}

-- ---- new mirror

module _ (w sitting : ℕ) (l : List ℕ) where
  new_sound : (k : ℕ) → First ((1, eqb (length l) MIRROR-SIZE) ∷ []) k → NewMirrorRefused l k
  new_sound k (now e) = new-length (eqb-false _ _ e)
  new_sound k (later e f) = none_first f

  new_whole : (k : ℕ) → NewMirrorRefused l k → Fails ((1, eqb (length l) MIRROR-SIZE) ∷ []) k
  new_whole k (new-length n) = here (ne_eqb _ _ n)

  pub creating_mirror_answers : CreatingMirrorAnswers w sitting l
  unfolding creating_mirror unless
  creating_mirror_answers =
      let a =
      answered (λ (o : Written). o.number)
      (found (NewMirrorRefused l) ((1, eqb (length l) MIRROR-SIZE) ∷ []) (unfold ordered place_in order in refl) new_sound new_whole)
      (record { number = 0; bytes = mirror_bytes (new_mirror w sitting) }) (record { number = refused _; bytes = l }) (λ e. omega arith) refl in
      record { number = a.refuses; kept = λ h. ap (λ (o : Written). o.bytes) (a.kept h); done = a.done }

-- ---- arrival

module _ (l b : List ℕ) where
  late : Bool
  late = due (read_report b) (read_mirror l)

  wide : Bool
  wide = width_without_rows (read_report b) (read_mirror l)

  -- a step of the next pair is due
  late_is : get_or b KIND 0 ≡ STEP → late
      ≡ eqb (pair_at b REPORT-PAIR).sitting (pair_of (drop RECORD l)).sitting && eqb (pair_at b REPORT-PAIR).serial ((pair_of (drop RECORD l)).serial + 1)
  unfolding late due read_report read_front read_mirror read_state stamp_of
  late_is e =
      ap (λ (k : Kind). due_at k (pair_at b REPORT-PAIR) (pair_of (drop RECORD l))) (sym (step_byte _ e)) ∙ (unfold due_at same_pair next_pair in refl)

  wide_is : wide ≡ not (eqb (head_at b HEAD).width (head_of (drop RECORD l)).width) && not (eqb (four_at b MASK) ALL-ROWS)
  unfolding wide width_without_rows read_report read_front read_mirror read_state
  wide_is = refl

  wide_fault : WidthWithoutRows l b → late && wide ≡ true
  wide_fault w =
      and_both _ _ (late_is w.kind ∙ and_both _ _ (eq-eqb _ _ w.sitting) (eq-eqb _ _ w.next))
      (wide_is ∙ and_both _ _ (ap not (ne_eqb _ _ w.width)) (ap not (ne_eqb _ _ w.mask)))

  fault_wide : reportb b ≡ true → late && wide ≡ true → WidthWithoutRows l b
  fault_wide p e =
      let d : late ≡ true = and_left late wide e in
      let other : Bool = not (eqb (head_at b HEAD).width (head_of (drop RECORD l)).width) in
      let lacks : Bool = not (eqb (four_at b MASK) ALL-ROWS) in
      let w : other && lacks ≡ true = sym wide_is ∙ and_right late wide e in
      go (report_facts b p).kind d (eqb-false _ _ (not-true _ (and_left other lacks w))) (eqb-false _ _ (not-true _ (and_right other lacks w)))
    where
      go : KindFits (get_or b KIND 0) (four_at b MASK) → late ≡ true → (head_at b HEAD).width ≢ (head_of (drop RECORD l)).width
          → four_at b MASK ≢ ALL-ROWS → WidthWithoutRows l b
      go (step k m) d w n =
          let same : Bool = eqb (pair_at b REPORT-PAIR).sitting (pair_of (drop RECORD l)).sitting in
          let one : Bool = eqb (pair_at b REPORT-PAIR).serial ((pair_of (drop RECORD l)).serial + 1) in
          let e : same && one ≡ true = sym (late_is k) ∙ d in
          record { kind = k; sitting = eqb-true _ _ (and_left same one e); next = eqb-true _ _ (and_right same one e); width = w; mask = n }
      go (full k m) d w n = absurd (n m)

  -- the width is looked at in valid reports alone
  arrival_sound : (k : ℕ) → First (arrival_tests l b) k → ArrivalRefused l b k
  unfolding arrival_tests late wide
  arrival_sound k (now e) = mirror_length (eqb-false _ _ e)
  arrival_sound k (later p (now e)) = mirror_layout ((fails (ValidMirror l) (mirrorb l) (mirror_facts l) (facts_mirror l)).1 e)
  arrival_sound k (later p (later q (now e))) = report_layout ((fails (ValidReport b) (reportb b) (report_facts b) (facts_report b)).1 e)
  arrival_sound k (later p (later q (later r (now e)))) = other_width (fault_wide r (not-false _ e))
  arrival_sound k (later p (later q (later r (later s f)))) = none_first f

  arrival_whole : (k : ℕ) → ArrivalRefused l b k → Fails (arrival_tests l b) k
  unfolding arrival_tests late wide
  arrival_whole k (mirror_length n) = here (ne_eqb _ _ n)
  arrival_whole k (mirror_layout n) = there (here ((fails (ValidMirror l) (mirrorb l) (mirror_facts l) (facts_mirror l)).0 n))
  arrival_whole k (report_layout n) = there (there (here ((fails (ValidReport b) (reportb b) (report_facts b) (facts_report b)).0 n)))
  arrival_whole k (other_width w) = there (there (there (here (ap not (wide_fault w)))))

  abbrev first : ℕ
  first = first_of (arrival_tests l b)

  arrival_found : Found (ArrivalRefused l b) first
  arrival_found = found _ _ (arrival_ordered l b) arrival_sound arrival_whole

  arrival_is : arrival l b ≡ (if eqb first 0 then leaving (taken (read_report b) (read_mirror l)) else record { number = refused first; bytes = l })
  unfolding arrival arrived taken
  arrival_is = go (eqb first 0) (due (read_report b) (read_mirror l)) first
    where
      go : (z d : Bool) (k : ℕ) → arrived_outcome (if not z then Refused k else if d then Applied else Noted) l b
          ≡ (if z then leaving (if d then applied (read_report b) (read_mirror l) else noted (read_report b) (read_mirror l)) else record { number = refused k; bytes = l })
      go false d k = unfold arrived_outcome in refl
      go true false k = unfold arrived_outcome in refl
      go true true k = unfold arrived_outcome in refl

  pub arrival_answers : ArrivalAnswers l b
  arrival_answers =
      let a =
      answered (λ (o : Written). o.number) arrival_found (leaving (taken (read_report b) (read_mirror l))) (record { number = refused first; bytes = l })
      (λ e. unfold leaving level_of in either (λ (n : ℕ). n < refused 0) (same_pair (taken (read_report b) (read_mirror l)).state.stamp.pair (taken (read_report b) (read_mirror l)).newest) _ _ (omega arith) (omega arith)) refl in
      let is = sym arrival_is in
      record {
        number = subst (λ (o : Written). Refuses (ArrivalRefused l b) o.number) is a.refuses;
        kept = subst (λ (o : Written). refused 1 ≤ o.number → o.bytes ≡ l) is (λ h. ap (λ (o : Written). o.bytes) (a.kept h));
        done = subst (λ (o : Written). o.number < refused 1 → o ≡ leaving (taken (read_report b) (read_mirror l))) is a.done;
      }
