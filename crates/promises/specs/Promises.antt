-- What is promised, on one page. Each field is a sentence of document 01 or 02, with its words above it; `proofs/Promises.antt` has `promises : Promises`.
-- The contracts of the exported calls (`api/src`) say that the code answers and leaves what `changing`, `creating`, `asking`, `texting`, `reporting`,
-- `creating_mirror`, `arrival` and `stripping` give; here stands what is promised of these. l, m and t are a lent screen record, mirror and key table,
-- out is a lent output and b an arriving slice.
-- Assumes nothing.
use Rattle.std.specs.Prelude.{ℕ, ◌+◌, ◌<◌, ◌≡◌, true, false, List}
use Rattle.octets.specs.Answer.{is_refusal}
use Rattle.octets.specs.Test.{every, is_byte}
use Rattle.grid.specs.Layout.{SERIALS}
use Rattle.grid.specs.Conditions.{ValidRecord}
use Rattle.grid.specs.Screen.{new_state}
use Rattle.grid.specs.Record.{state_bytes, read_state, pair_of}
use Rattle.editor.specs.Call.{Call}
use Rattle.editor.specs.Outcome.{changing, Query, TextCall}
use Rattle.editor.specs.CheckedPrints.{CheckedPrints}
use Rattle.editor.specs.WaitingPrints.{WaitingPrints}
use Rattle.editor.specs.LimitedTyping.{LimitedTyping}
use Rattle.editor.specs.Refusals.{ChangingAnswers, CreatingAnswers, AskingAnswers, TextingAnswers}
use Rattle.report.specs.declared.kind.Kind.{Kind}
use Rattle.report.specs.Report.{report_bytes, read_report}
use Rattle.report.specs.Refusals.{ValidReport, ReportingAnswers}
use Rattle.mirror.specs.Mirror.{mirror_bytes, read_mirror}
use Rattle.mirror.specs.Refusals.{ValidMirror, CreatingMirrorAnswers, ArrivalAnswers}
use Rattle.mirror.specs.Demand3.{Demand3, Followed}
use Rattle.keys.specs.Refusals.{StrippingAnswers}
use Rattle.promises.specs.Examples.{examples, holds}

pub record Promises : Type 0 where
  -- "Refusal k answers 4,294,967,040 + k and changes no lent byte. Checked in this order": the number is that of refusal k exactly when condition k, written
  -- out, holds and none before it in the order; a refused call leaves every lent byte, and an accepted one answers and leaves what the rules say. So it is
  -- with the 27 changing calls
  pub changing_calls : (c : Call) (l : List ℕ) → ChangingAnswers c l
  -- and with new screen, "they don't read the buffer's old bytes, so 2 is not tested"
  pub new_screen : (w sitting : ℕ) (l : List ℕ) → CreatingAnswers w sitting l
  -- and with the reading calls, "`cell` a row 0 to 24 and a column below the width; `continues` a row 0 to 24" (a lent slice holds bytes)
  pub reading_calls : (q : Query) (l : List ℕ) → every is_byte l ≡ true → AskingAnswers q l
  -- and with the text calls, "line output under 255, snapshot output under 2,024"
  pub text_calls : (q : TextCall) (l out : List ℕ) → TextingAnswers q l out
  -- and with the report calls: an output shorter than the longest report is refusal 1
  pub report_calls : (kind : Kind) (l out : List ℕ) → ReportingAnswers kind l out
  -- and with new mirror, of which the length alone is tested, as of new screen
  pub new_mirror : (w sitting : ℕ) (m : List ℕ) → CreatingMirrorAnswers w sitting m
  -- and with arrivals, "an arriving report breaks its layout", "a step report that would be applied changes the width without carrying all 25 rows"
  pub arrivals : (m b : List ℕ) → ArrivalAnswers m b
  -- and with the strip, "a bad strip width is 3; the strip output's length is then not tested"
  pub strip_call : (t : List ℕ) (offset width : ℕ) (out : List ℕ) → StrippingAnswers t offset width out
  -- "New: length, version and width set, spaces of attribute 7 inside W, current attribute 7, keys on, rest zero", and by document 02, (c), "Each new screen gets
  -- a sitting number from the host, 32 bits": that is a valid record, of whatever sitting
  pub new_valid : (w sitting : ℕ) → sitting < SERIALS → ValidRecord (state_bytes (new_state w sitting))
  -- "Valid: cursor row below E, column below W, flags and switches 0 or 1, touched below 2^25, characters inside W 27 or at least 32, all bytes beyond W zero",
  -- and by document 02, (l), "Byte 6 of the screen record, now 0 to 3": an accepted call on a valid record leaves a valid record
  pub kept_valid : (c : Call) (l : List ℕ) → every is_byte l ≡ true → ValidRecord l → is_refusal (changing c l).number ≡ false → ValidRecord (changing c l).rec
  -- "An accepted changing call adds 1 to the serial"; by document 02, (c), in the sitting that the new screen got
  pub sitting_kept : (c : Call) (l : List ℕ) → every is_byte l ≡ true → ValidRecord l → is_refusal (changing c l).number ≡ false
      → pair_of (changing c l).rec ≡ record { sitting = (pair_of l).sitting; serial = (pair_of l).serial + 1 }
  -- "Screen record": what the rules read of a valid one is all that stands in it, so from bytes to values and back nothing is lost
  pub record_whole : (l : List ℕ) → every is_byte l ≡ true → ValidRecord l → state_bytes (read_state l) ≡ l
  -- "Report": likewise
  pub report_whole : (b : List ℕ) → every is_byte b ≡ true → ValidReport b → report_bytes (read_report b) ≡ b
  -- "Mirror": likewise
  pub mirror_whole : (m : List ℕ) → every is_byte m ≡ true → ValidMirror m → mirror_bytes (read_mirror m) ≡ m
  -- "Demand 3 is one claim about its two lists, not one for each call": whatever the line does to whole reports, of one sitting or of more (document 02, (c)), the mirror shows
  -- the screen of the sitting and serial that it names
  pub demand_3 : Demand3
  -- document 02, (c), "A candidate's terminal restarts in mid-paper": once a full report of the sitting with the largest number has arrived, the mirror shows
  -- that sitting from then on
  pub restart_followed : Followed
  -- document 02, (l): "A checked print, a changing call beside the old one, tests what callers had to keep": on any valid record and for any list of inputs,
  -- checked prints in turn, if all are accepted, leave the cells, flags and cursor, and the bit, that one print of the inputs together leaves
  pub checked_prints : CheckedPrints
  -- document 02, (a): "stops before the byte that would scroll one row more; 13,10 counts as one. It gives bytes taken + 65,536 × rows scrolled, and that row count is
  -- the number of scrolls the printing rules make. Printing the rest afterwards, if accepted, must leave the cells, flags and cursor that one unlimited print leaves"
  pub waiting_prints : WaitingPrints
  -- document 02, (g): "Where padded content already holds L or more, inserting and extending change nothing; overwriting inside it still works. At L = 255 it is the old
  -- call"; and a content that holds at most L characters holds at most L afterwards
  pub limited_typing : LimitedTyping
  -- "One checked list over the definitions holds the examples marked *"
  pub examples_hold : every holds examples ≡ true
