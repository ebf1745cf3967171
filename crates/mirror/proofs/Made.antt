-- A report that was made: its bytes are those of what the record held, and it says its kind, its sitting and how many calls were accepted before it.
-- Assumes nothing.
use Prim.Native.Nat.{ℕ, ◌≤◌}
use mathlib.Core.Path.{◌≡◌, refl, ap, ◌∙◌}
use mathlib.Core.List.{List}
use lib.Dec.{leb}
use lib.ListN.{length, take, drop}
use lib.Seq.{take-append_seam}
use borrow.Author.Tests.{eq-eqb, le-leb}
use Rattle.octets.specs.Answer.{Written, wrote}
use Rattle.grid.specs.Layout.{SIZE}
use Rattle.grid.specs.Screen.{State}
use Rattle.grid.specs.Record.{state_bytes}
use Rattle.grid.specs.Facts.{StateFacts}
use Rattle.octets.specs.Refusals.{first_of, all_pass}
use Rattle.grid.specs.Refusals.{record_tests}
use Rattle.octets.proofs.Bools.{and_both}
use Rattle.grid.proofs.Bytes.{state_back, length_state, state_valid}
use Rattle.report.specs.Layout.{LONGEST}
use Rattle.report.specs.declared.kind.Kind.{Kind}
use Rattle.report.specs.Report.{Report, front_of, report_of, report_bytes, read_front, read_report, reported, reporting}
use Rattle.mirror.specs.Count.{Heard, heard_in}
use Rattle.mirror.specs.Demand3.{Sitting, accepted_by, record_after, Paper, sitting, report}
use Rattle.report.proofs.RoundTrips.{report_back}
use Rattle.octets.proofs.Found.{unless_none, all_passed}
use Rattle.mirror.proofs.Runs.{state_at, facts_at, accepted_le, record_is}
use Rattle.mirror.proofs.Arrivals.{pair_after, was, state_was, made_facts}

-- no test of a report call fails on the record of a state
none_refused : (t : State) (out : List ℕ) → StateFacts t → LONGEST ≤ length out → first_of (record_tests (leb LONGEST (length out)) (state_bytes t)) ≡ 0
unfolding record_tests all_pass
none_refused t out f h =
    all_passed _
    (and_both _ _ (and_both _ _ (eq-eqb (length (state_bytes t)) SIZE (length_state t f)) (le-leb LONGEST (length out) h)) (and_both _ _ (state_valid t f) refl))

-- the report call on the record of a state
reporting_done : (kind : Kind) (t : State) (out : List ℕ) → StateFacts t → LONGEST ≤ length out
    → reporting kind (state_bytes t) out ≡ wrote (report_bytes (report_of kind t)) out
unfolding reporting reported
reporting_done kind t out f h =
    unless_none _ _ _ (none_refused t out f h)
    ∙ ap (λ (x : State). wrote (report_bytes (report_of kind x)) out) (state_back t f)

taken_out : (text out : List ℕ) → take (wrote text out).number (wrote text out).bytes ≡ text
unfolding wrote
taken_out text out = take-append_seam text (drop (length text) out)

module _ (paper : Paper) (i : ℕ) (kind : Kind) (k : ℕ) (out : List ℕ) (room : LONGEST ≤ length out) where
  abbrev own : Sitting
  own = sitting paper i

  -- what the report says
  abbrev pub said : Heard
  said = record { kind = kind; pair = pair_after own (accepted_by own k) }

  pub report_is : report paper i kind k out ≡ report_bytes (report_of kind (was own (accepted_by own k)))
  unfolding report
  report_is =
      let m = accepted_by own k in
      let done : reporting kind (record_after own k) out ≡ wrote (report_bytes (report_of kind (was own m))) out =
      ap (λ (l : List ℕ). reporting kind l out) (record_is own k) ∙ reporting_done kind (state_at own m) out (facts_at own m) room
      ∙ ap (λ (t : State). wrote (report_bytes (report_of kind t)) out) (state_was own m (accepted_le own k)) in
      ap (λ (o : Written). take o.number o.bytes) done ∙ taken_out _ out

  pub report_says : heard_in (report paper i kind k out) ≡ said
  unfolding heard_in read_report read_front report_of front_of was
  report_says =
      ap heard_in report_is
      ∙ ap (λ (r : Report). record { kind = r.front.kind; pair = r.front.pair }) (report_back _ (made_facts own kind (accepted_by own k) (accepted_le own k)))
