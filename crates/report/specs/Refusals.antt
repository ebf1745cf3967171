-- Document 01, "What a call answers" and "Reports and mirror": when exactly a report call is refused, and what a valid report is. The conditions are
-- written out here, apart from the tests by which `specs/Report.antt` finds a refusal. `proofs/Refusals.antt` has that the calls answer by them.
-- Assumes nothing.
use Rattle.std.specs.Prelude.{ℕ, ◌+◌, ◌*◌, ◌≤◌, ◌<◌, ◌≡◌, List, ◌≢◌, length, get_or}
use Rattle.std.specs.Int.Count.{ones}
use Rattle.octets.specs.Answer.{refused, wrote}
use Rattle.octets.specs.Number.{number2, four_at}
use Rattle.octets.specs.Refusals.{Refuses}
use Rattle.grid.specs.Layout.{SIZE, MASKS}
use Rattle.grid.specs.Record.{head_at}
use Rattle.grid.specs.Conditions.{ValidHead, ValidRow, ValidRecord}
use Rattle.report.specs.Layout.{REPORT-VERSION, KIND, MASK, HEAD, ROWS, ROW-SIZE, LONGEST, STEP, FULL, ALL-ROWS}
use Rattle.report.specs.declared.kind.Kind.{Kind}
use Rattle.report.specs.Report.{reported, reporting}

-- the byte of the kind, and the mask: below 2 ^ 25 and, if full, that of all rows
pub data KindFits (kind mask : ℕ) : Type 0 where
  step : kind ≡ STEP → mask < MASKS → KindFits kind mask
  full : kind ≡ FULL → mask ≡ ALL-ROWS → KindFits kind mask

pub record ValidReport (b : List ℕ) : Type 0 where
  pub size : length b ≡ ROWS + ROW-SIZE * ones (four_at b MASK)
  pub field : number2 (get_or b 0 0) (get_or b 1 0) ≡ length b
  pub version : get_or b 2 0 ≡ REPORT-VERSION
  pub kind : KindFits (get_or b KIND 0) (four_at b MASK)
  pub head : ValidHead (head_at b HEAD)
  -- its rows are judged by its own width; of each come flag, characters, attributes
  pub rows : (k : ℕ) → k < ones (four_at b MASK) → let at = ROWS + ROW-SIZE * k in ValidRow (head_at b HEAD).width b at (at + 1) (at + 1 + 80)

pub data ReportRefused (l out : List ℕ) : ℕ → Type 0 where
  record_length : length l ≢ SIZE → ReportRefused l out 1
  output_length : length out < LONGEST → ReportRefused l out 1
  layout : ¬ ValidRecord l → ReportRefused l out 2

pub record ReportingAnswers (kind : Kind) (l out : List ℕ) : Type 0 where
  pub number : Refuses (ReportRefused l out) (reporting kind l out).number
  pub kept : refused 1 ≤ (reporting kind l out).number → (reporting kind l out).bytes ≡ out
  pub done : (reporting kind l out).number < refused 1 → reporting kind l out ≡ wrote (reported kind l) out
