-- Demand 3 of document 01 over several sittings (document 02, (c)), whole and in one statement: whatever the line does to whole reports, the mirror shows
-- exactly the screen of the sitting and serial that it names, and says truthfully whether that is the newest one it has heard of.
-- `proofs/Claims.antt` proves it: `demand_3 : Demand3`.
-- All that happens here happens by the definitions that the exported contracts cite, on bytes: `creating`, `changing`, `reporting`, `creating_mirror`,
-- `arrival`; what a list of calls leaves and which of them are accepted is said in `editor/specs/Lists`. The shown and the newest pair are counted by
-- `tally` (specs/Count.antt), which knows nothing of arrival and says by itself which pair is later.
-- Assumes nothing.
use Rattle.std.specs.Prelude.{if◌then◌else◌, ℕ, ◌+◌, ◌≤◌, ◌<◌, ◌≡◌, true, false, ◌↔◌, ◌≢◌, eqb, length, get_or, take, drop}
use mathlib.Core.List.{List, [], ◌∷◌, ◌++◌, foldl}
use Rattle.octets.specs.Answer.{is_refusal}
use Rattle.grid.specs.Layout.{SIZE, SERIALS}
use Rattle.grid.specs.Pair.{pair_at}
use Rattle.grid.specs.Screen.{Screen, new_screen}
use Rattle.grid.specs.Record.{pair_of, state_bytes}
use Rattle.grid.specs.declared.pair.Pair.{Pair}
use Rattle.editor.specs.Call.{Call}
use Rattle.editor.specs.Lists.{record_left, accepted, screen_left}
use Rattle.editor.specs.Outcome.{creating}
use Rattle.report.specs.Layout.{LONGEST}
use Rattle.report.specs.declared.kind.Kind.{Kind}
use Rattle.report.specs.declared.kind.Kind.TheVariants.{Step, Full}
use Rattle.report.specs.Report.{reporting}
use Rattle.mirror.specs.Layout.{MIRROR-SIZE, NEWEST, RECORD}
use Rattle.mirror.specs.Mirror.{creating_mirror, arrival}
use Rattle.mirror.specs.Count.{is_later, later_of, Heard, heard_in, Count, is_level, start, tally}

-- ---- the first list: sittings, each with its calls

-- one sitting: its number, the width asked for, a buffer with anything in it, and the changing calls, with those that will be refused
pub record Sitting : Type 0 where
  pub number : ℕ
  pub number_fits : number < SERIALS
  pub width : ℕ
  pub buffer : List ℕ
  pub buffer_size : length buffer ≡ SIZE
  pub calls : List Call

module _ (s : Sitting) where
  -- the record that new screen leaves
  unfoldable pub new_record : List ℕ
  new_record = (creating s.width s.number s.buffer).bytes

  -- the record after the first k calls (after all, if they are fewer)
  unfoldable pub record_after : ℕ → List ℕ
  record_after k = record_left new_record (take k s.calls)

  -- how many of the first k calls are accepted
  unfoldable pub accepted_by : ℕ → ℕ
  accepted_by k = length (accepted new_record (take k s.calls))

  -- the screen after the first m accepted calls, by the rules alone: from the new screen of the width, and these calls with their arguments
  unfoldable pub screen_after : ℕ → Screen
  screen_after m = screen_left (new_screen s.width) (take m (accepted new_record s.calls))

-- the sitting in place i of some (the one given, if they are fewer), and the first one with a number (likewise, if none has it)
unfoldable pub in_place : Sitting → List Sitting → ℕ → Sitting
in_place s all i = get_or all i s

unfoldable pub with_number : Sitting → List Sitting → ℕ → Sitting
with_number s [] number = s
with_number s (t ∷ more) number = if eqb t.number number then t else with_number s more number

-- what is given: the sittings of a paper, one or more, no number used twice and no other order among the numbers; and a mirror's buffer with anything in it
pub record Paper : Type 0 where
  pub first : Sitting
  pub others : List Sitting
  pub once : (i j : ℕ) → i < j → j ≤ length others → (in_place first (first ∷ others) i).number ≢ (in_place first (first ∷ others) j).number
  pub mirror_buffer : List ℕ
  pub mirror_size : length mirror_buffer ≡ MIRROR-SIZE

-- ---- the second list: arrivals

pub data Arrival : Type 0 where
  -- the report of this kind that the sitting in place i makes after its first k calls, in an output that holds anything before
  made : ℕ → Kind → ℕ → List ℕ → Arrival
  -- any other slice
  slice : List ℕ → Arrival

module _ (paper : Paper) where
  abbrev pub sitting : ℕ → Sitting
  sitting i = in_place paper.first (paper.first ∷ paper.others) i

  abbrev pub numbered : ℕ → Sitting
  numbered number = with_number paper.first (paper.first ∷ paper.others) number

  -- a report is what the report call leaves in the output, up to the length that it answers
  unfoldable pub report : ℕ → Kind → ℕ → List ℕ → List ℕ
  report i kind k out =
      let o = reporting kind (record_after (sitting i) k) out in
      take o.number o.bytes

  -- the bytes that arrive
  unfoldable pub arriving : Arrival → List ℕ
  arriving (made i kind k out) = report i kind k out
  arriving (slice b) = b

  -- the mirror after some arrivals: the first finds what new mirror leaves at the first sitting's width and number, each later one what the arrival before left
  unfoldable pub mirror_after : List Arrival → List ℕ
  mirror_after seen =
      foldl (λ l a. (arrival l (arriving a)).bytes) (creating_mirror paper.first.width paper.first.number paper.mirror_buffer).bytes seen

  -- what may arrive after others: a report whose output was long enough, any number of times and in any order; a slice, if it is refused
  unfoldable pub May : List Arrival → Arrival → Type 0
  May seen (made i kind k out) = LONGEST ≤ length out
  May seen (slice b) = is_refusal (arrival (mirror_after seen) b).number ≡ true

  -- a list of such arrivals
  unfoldable pub Line : List Arrival → Type 0
  Line line = (seen later : List Arrival) (a : Arrival) → line ≡ seen ++ a ∷ later → May seen a

  -- ---- the pairs, counted

  -- the kinds and pairs of the reports that arrived; slices refused between them count for nothing
  unfoldable pub heard : List Arrival → List Heard
  heard [] = []
  heard (made i kind k out ∷ seen) = heard_in (report i kind k out) ∷ heard seen
  heard (slice b ∷ seen) = heard seen

  abbrev pub count : List Arrival → Count
  count seen = tally paper.first.number (heard seen)

  abbrev pub shown : List Arrival → Pair
  shown seen = (count seen).shown

  abbrev pub newest : List Arrival → Pair
  newest seen = (count seen).newest

-- the latest of a pair and those of some reports
unfoldable pub latest_of : Pair → List Heard → Pair
latest_of p [] = p
latest_of p (h ∷ hs) = later_of h.pair (latest_of p hs)

-- ---- what is claimed

-- the two pairs of a mirror: the newest, and that of the screen shown
abbrev pub newest_in : List ℕ → Pair
newest_in l = pair_at l NEWEST

abbrev pub shown_in : List ℕ → Pair
shown_in l = pair_of (drop RECORD l)

module _ (paper : Paper) where
  -- the latest of the start and all that arrived
  abbrev pub latest_in : List Arrival → Pair
  latest_in seen = latest_of (start paper.first.number) (heard paper seen)

  -- of the mirror at the start and after each arrival
  pub record Shows (seen : List Arrival) : Type 0 where
    pub newest_is : newest_in (mirror_after paper seen) ≡ newest paper seen
    pub shown_is : shown_in (mirror_after paper seen) ≡ shown paper seen
    -- there is a sitting with the counted number
    pub sitting_is : (numbered paper (shown paper seen).sitting).number ≡ (shown paper seen).sitting
    -- the mirror's screen record is that of its screen after the counted number of accepted calls, with that serial and sitting, touched 0
    pub screen : drop RECORD (mirror_after paper seen)
        ≡ state_bytes
        (record {
          screen = screen_after (numbered paper (shown paper seen).sitting) (shown paper seen).serial;
          stamp = record { pair = shown paper seen; touched = 0 };
        })
    -- its pairs are equal exactly when the shown one is the latest of the start and all that arrived
    pub level : (shown_in (mirror_after paper seen) ≡ newest_in (mirror_after paper seen)) ↔ (shown paper seen ≡ latest_in seen)

  -- of each report that arrives: `before` and `now` are the arrivals without it and with it, b its bytes, number what its arrival answers
  pub record Takes (before now : List Arrival) (i : ℕ) (kind : Kind) (k : ℕ) (b : List ℕ) (number : ℕ) : Type 0 where
    -- it says its kind, its sitting, and how many calls of it were accepted before it was made
    pub says : heard_in b ≡ record { kind = kind; pair = record { sitting = (sitting paper i).number; serial = accepted_by (sitting paper i) k } }
    pub not_refused : is_refusal number ≡ false
    -- it answers 1 exactly when the pairs are then the same, else 0
    pub answers : number ≡ (if is_level (count paper now) then 1 else 0)
    -- a step of the shown sitting at the next serial moves the mirror there
    pub next :
        let p : Pair = record { sitting = (shown paper before).sitting; serial = (shown paper before).serial + 1 } in
        kind ≡ Step → (heard_in b).pair ≡ p → shown_in (mirror_after paper now) ≡ p
    -- a full report at least as late as the start and all arrivals makes the two pairs equal
    pub levels : kind ≡ Full → is_later (latest_in before) (heard_in b).pair ≡ false → shown_in (mirror_after paper now) ≡ newest_in (mirror_after paper now)

  pub record Mirrored (line : List Arrival) : Type 0 where
    pub shows : (seen later : List Arrival) → line ≡ seen ++ later → Shows seen
    pub takes : (before later : List Arrival) (i : ℕ) (kind : Kind) (k : ℕ) (out : List ℕ) → line ≡ before ++ made i kind k out ∷ later
        → Takes before (before ++ made i kind k out ∷ []) i kind k (report paper i kind k out) (arrival (mirror_after paper before) (report paper i kind k out)).number

abbrev pub Demand3 : Type 0
Demand3 = (paper : Paper) (line : List Arrival) → Line paper line → Mirrored paper line

-- ---- what follows for a restarted terminal

-- once a full report of a sitting with a larger number than every other has arrived, the mirror shows that sitting from then on and never an older one
abbrev pub Followed : Type 0
Followed =
    (paper : Paper) (i : ℕ) → ((j : ℕ) → (sitting paper j).number ≤ (sitting paper i).number)
    → (before after : List Arrival) (k : ℕ) (out : List ℕ) → Line paper (before ++ made i Full k out ∷ after)
    → (shown_in (mirror_after paper (before ++ made i Full k out ∷ after))).sitting ≡ (sitting paper i).number
