-- Document 01, "What a call answers" and "Reports and mirror": when exactly new mirror and an arrival are refused, and what a valid mirror is. The
-- conditions are written out here, apart from the tests by which `specs/Mirror.antt` finds a refusal. `proofs/Refusals.antt` has that the calls answer
-- by them.
-- Assumes nothing.
use Rattle.std.specs.Prelude.{ℕ, ◌+◌, ◌/◌, ◌%◌, ◌≤◌, ◌<◌, ◌≡◌, List, ◌≢◌, ◌⊎◌, length, get_or, drop}
use Rattle.octets.specs.Answer.{refused}
use Rattle.octets.specs.Number.{four_at}
use Rattle.octets.specs.Refusals.{Refuses}
use Rattle.grid.specs.Pair.{pair_at}
use Rattle.grid.specs.Record.{head_at, head_of, pair_of, touched_of}
use Rattle.grid.specs.declared.pair.Pair.{Pair}
use Rattle.grid.specs.Conditions.{ValidRecord}
use Rattle.report.specs.Layout.{KIND, REPORT-PAIR, MASK, HEAD, STEP, ALL-ROWS}
use Rattle.report.specs.Report.{read_report}
use Rattle.report.specs.Refusals.{ValidReport}
use Rattle.mirror.specs.Layout.{MIRROR-SIZE, MIRROR-VERSION, NEWEST, RECORD}
use Rattle.mirror.specs.Mirror.{new_mirror, mirror_bytes, read_mirror, taken, leaving, creating_mirror, arrival}

-- ---- a valid mirror

-- a pair at most another: of a smaller sitting, or of the same one and no larger serial
unfoldable pub AtMost : Pair → Pair → Type 0
AtMost p q = (p.sitting < q.sitting) ⊎ ((p.sitting ≡ q.sitting) × (p.serial ≤ q.serial))

pub record ValidMirror (l : List ℕ) : Type 0 where
  pub size : length l ≡ MIRROR-SIZE
  pub length_high : get_or l 0 0 ≡ MIRROR-SIZE / 256
  pub length_low : get_or l 1 0 ≡ MIRROR-SIZE % 256
  pub version : get_or l 2 0 ≡ MIRROR-VERSION
  pub record_valid : ValidRecord (drop RECORD l)
  pub untouched : touched_of (drop RECORD l) ≡ 0
  pub behind : AtMost (pair_of (drop RECORD l)) (pair_at l NEWEST)

-- ---- new mirror

pub data NewMirrorRefused (l : List ℕ) : ℕ → Type 0 where
  mirror_length : length l ≢ MIRROR-SIZE → NewMirrorRefused l 1

pub record CreatingMirrorAnswers (w sitting : ℕ) (l : List ℕ) : Type 0 where
  pub number : Refuses (NewMirrorRefused l) (creating_mirror w sitting l).number
  pub kept : refused 1 ≤ (creating_mirror w sitting l).number → (creating_mirror w sitting l).bytes ≡ l
  pub done : (creating_mirror w sitting l).number < refused 1 → creating_mirror w sitting l ≡ record { number = 0; bytes = mirror_bytes (new_mirror w sitting) }

-- ---- arrival

-- a step report that would be applied changes the width without carrying all 25 rows
pub record WidthWithoutRows (l b : List ℕ) : Type 0 where
  pub kind : get_or b KIND 0 ≡ STEP
  pub sitting : (pair_at b REPORT-PAIR).sitting ≡ (pair_of (drop RECORD l)).sitting
  pub next : (pair_at b REPORT-PAIR).serial ≡ (pair_of (drop RECORD l)).serial + 1
  pub width : (head_at b HEAD).width ≢ (head_of (drop RECORD l)).width
  pub mask : four_at b MASK ≢ ALL-ROWS

-- an arriving slice of any wrong length is 5, never 1
pub data ArrivalRefused (l b : List ℕ) : ℕ → Type 0 where
  mirror_length : length l ≢ MIRROR-SIZE → ArrivalRefused l b 1
  mirror_layout : ¬ ValidMirror l → ArrivalRefused l b 2
  report_layout : ¬ ValidReport b → ArrivalRefused l b 5
  other_width : WidthWithoutRows l b → ArrivalRefused l b 6

pub record ArrivalAnswers (l b : List ℕ) : Type 0 where
  pub number : Refuses (ArrivalRefused l b) (arrival l b).number
  -- refused, it changes no byte, the newest pair included
  pub kept : refused 1 ≤ (arrival l b).number → (arrival l b).bytes ≡ l
  pub done : (arrival l b).number < refused 1 → arrival l b ≡ leaving (taken (read_report b) (read_mirror l))
