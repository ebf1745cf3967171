-- A report call is refused exactly by the documents' conditions, in the order of refusals, and does what the rules say otherwise.
-- Assumes nothing.
use Prim.Native.Nat.{ℕ}
use mathlib.Core.Path.{refl, ap}
use mathlib.Core.Bool.{Bool}
use mathlib.Core.List.{List}
use native.Mathlib.Omega.{arith}
use lib.Dec.{leb}
use lib.ListN.{length}
use lib.Count.{ones-le}
use borrow.Author.Tests.{leb-false, lt-leb}
use Rattle.octets.specs.Answer.{refused, Written, unless, wrote}
use Rattle.octets.proofs.Found.{First, Fails, found, answered, none_fails}
use Rattle.grid.specs.Record.{stamp_of, head_of}
use Rattle.grid.specs.Refusals.{record_tests}
use Rattle.grid.proofs.RefusalLaws.{record_ordered, record_sound, size_fails, other_fails, layout_fails, tests_taken}
use Rattle.report.specs.Layout.{LONGEST}
use Rattle.report.specs.declared.kind.Kind.{Kind}
use Rattle.report.specs.Report.{reported, reporting}
use Rattle.report.specs.Refusals.{ReportRefused, ReportingAnswers}
use Rattle.report.specs.Refusals.ReportRefused.{record_length, output_length, layout}
use Rattle.report.proofs.KindLaws.{rows_at_kind}
use Rattle.report.proofs.FrontLaws.{front_made}
use Rattle.report.proofs.ReportLaws.{length_reported}

module _ (l out : List ℕ) where
  report_sound : (k : ℕ) → First (record_tests (leb LONGEST (length out)) l) k → ReportRefused l out k
  report_sound k f = record_sound (ReportRefused l out) l (leb LONGEST (length out)) record_length (λ e. output_length (leb-false _ _ e)) layout k f

  report_whole : (k : ℕ) → ReportRefused l out k → Fails (record_tests (leb LONGEST (length out)) l) k
  report_whole k (record_length n) = size_fails l _ n
  report_whole k (output_length h) = other_fails l _ (lt-leb _ _ h)
  report_whole k (layout n) = layout_fails l _ n

  pub reporting_answers : (kind : Kind) → ReportingAnswers kind l out
  unfolding reporting unless wrote
  reporting_answers kind =
      let tests : List (ℕ × Bool) = record_tests (leb LONGEST (length out)) l in
      let order = record_ordered l (leb LONGEST (length out)) in
      let a =
      answered (λ (o : Written). o.number) (found (ReportRefused l out) tests order report_sound report_whole) (wrote (reported kind l) out)
      (record { number = refused _; bytes = out })
      (λ e.
      let v = (tests_taken (leb LONGEST (length out)) l (none_fails 0 tests order e) e).valid in
      let i = front_made kind l (stamp_of l) (head_of l) _ v refl refl refl in
      omega (arith, length_reported kind l _ v i, ones-le 25 _ i.small, rows_at_kind kind)) refl in
      record { number = a.refuses; kept = λ h. ap (λ (o : Written). o.bytes) (a.kept h); done = a.done }
