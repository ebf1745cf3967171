-- Document 01, "Reports and mirror": the mirror. What an arriving report does to it, its bytes, and what new mirror and an arrival answer and leave.
-- By document 02, (c), "Pairs of sitting and serial, ordered by sitting first, replace the serials in 01's mirror rules, m ≤ n included".
-- Assumes nothing.
use Rattle.std.specs.Prelude.{if◌then◌else◌, ℕ, ◌/◌, ◌%◌, Bool, not, ◌&&◌, List, [], ◌∷◌, ◌++◌, eqb, length, get_or, drop}
use Rattle.octets.specs.Answer.{refused, Written, unless}
use Rattle.octets.specs.Number.{bytes2}
use Rattle.octets.specs.Refusals.{first_of}
use Rattle.grid.specs.Pair.{pair_at, pair_bytes, next_pair}
use Rattle.grid.specs.Screen.{State, new_state}
use Rattle.grid.specs.Record.{state_bytes, read_state, pair_of, touched_of, validb}
use Rattle.grid.specs.declared.pair.Pair.{Pair}
use Rattle.report.specs.Layout.{ALL-ROWS}
use Rattle.report.specs.declared.kind.Kind.{Kind}
use Rattle.report.specs.declared.kind.Kind.TheVariants.{Step, Full}
use Rattle.report.specs.Carried.{bits, merge}
use Rattle.report.specs.Report.{Report, read_report, reportb}
use Rattle.mirror.specs.Layout.{MIRROR-SIZE, MIRROR-VERSION, NEWEST, RECORD}
use Rattle.mirror.specs.Order.{same_pair, later, latest}

-- the newest pair, and a screen record of the shown pair with touched 0
pub record Mirror : Type 0 where
  pub newest : Pair
  pub state : State

-- of a width and a sitting
unfoldable pub new_mirror : ℕ → ℕ → Mirror
new_mirror w sitting = record { newest = record { sitting = sitting; serial = 0 }; state = new_state w sitting }

-- ---- a report arrives

-- "A full report is applied if its pair is later than the shown one; a step only within the shown sitting, at the next serial"
unfoldable pub due_at : Kind → Pair → Pair → Bool
due_at Step p shown = same_pair p (next_pair shown)
due_at Full p shown = later p shown

unfoldable pub due : Report → Mirror → Bool
due r μ = due_at r.front.kind r.front.pair μ.state.stamp.pair

-- it changes the width without carrying all 25 rows
unfoldable pub width_without_rows : Report → Mirror → Bool
width_without_rows r μ = not (eqb r.front.head.width μ.state.screen.head.width) && not (eqb r.front.mask ALL-ROWS)

-- what the mirror shows once the report is applied
unfoldable pub shown : Report → State → State
shown r t = record {
  screen = record { head = r.front.head; rows = merge (bits 25 r.front.mask) r.rows t.screen.rows };
  stamp = record { pair = r.front.pair; touched = 0 };
}

-- every accepted report sets the newest pair to the later of the two
unfoldable pub noted : Report → Mirror → Mirror
noted r μ = record { newest = latest μ.newest r.front.pair; state = μ.state }

unfoldable pub applied : Report → Mirror → Mirror
applied r μ = record { newest = latest μ.newest r.front.pair; state = shown r μ.state }

-- an accepted one is applied if it is due, else only noted
unfoldable pub taken : Report → Mirror → Mirror
taken r μ = if due r μ then applied r μ else noted r μ

-- ---- its bytes

-- what stands before its record
unfoldable pub mirror_front : Pair → List ℕ
mirror_front newest = bytes2 MIRROR-SIZE ++ (MIRROR-VERSION ∷ []) ++ pair_bytes newest

unfoldable pub mirror_bytes : Mirror → List ℕ
mirror_bytes μ = mirror_front μ.newest ++ state_bytes μ.state

unfoldable pub read_mirror : List ℕ → Mirror
read_mirror l = record { newest = pair_at l NEWEST; state = read_state (drop RECORD l) }

-- its length field and version
unfoldable pub mirror_frontb : List ℕ → Bool
mirror_frontb l = eqb (get_or l 0 0) (MIRROR-SIZE / 256) && eqb (get_or l 1 0) (MIRROR-SIZE % 256) && eqb (get_or l 2 0) MIRROR-VERSION

-- a valid record with touched 0, the shown pair at most the newest
unfoldable pub shownb : List ℕ → Bool
shownb l = validb (drop RECORD l) && eqb (touched_of (drop RECORD l)) 0 && not (later (pair_of (drop RECORD l)) (pair_at l NEWEST))

-- else refusal 2
unfoldable pub mirrorb : List ℕ → Bool
mirrorb l = eqb (length l) MIRROR-SIZE && mirror_frontb l && shownb l

-- ---- new mirror

-- the old bytes are not read, so their length alone can be refused
unfoldable pub creating_mirror : ℕ → ℕ → List ℕ → Written
creating_mirror w sitting l = unless (first_of ((1, eqb (length l) MIRROR-SIZE) ∷ [])) l (record { number = 0; bytes = mirror_bytes (new_mirror w sitting) })

-- ---- arrival: the lent mirror l, the arriving slice b

-- what can refuse it
unfoldable pub arrival_tests : List ℕ → List ℕ → List (ℕ × Bool)
arrival_tests l b =
    let r = read_report b in
    let μ = read_mirror l in
    (1, eqb (length l) MIRROR-SIZE) ∷ (2, mirrorb l) ∷ (5, reportb b) ∷ (6, not (due r μ && width_without_rows r μ)) ∷ []

-- what becomes of it: an old or early one, or one of another sitting, is only noted
pub data Arrived : Type 0 where
  Refused : ℕ → Arrived
  Noted : Arrived
  Applied : Arrived

unfoldable pub arrived : List ℕ → List ℕ → Arrived
arrived l b =
    let k = first_of (arrival_tests l b) in
    if not (eqb k 0) then Refused k
    else if due (read_report b) (read_mirror l) then Applied
    else Noted

-- 1 if level: "Level means that shown and newest pair are the same"; else 0
unfoldable pub level_of : Pair → Pair → ℕ
level_of shown newest = if same_pair shown newest then 1 else 0

unfoldable pub leaving : Mirror → Written
leaving μ = record { number = level_of μ.state.stamp.pair μ.newest; bytes = mirror_bytes μ }

-- the number answered and the bytes left, in each case
unfoldable pub arrived_outcome : Arrived → List ℕ → List ℕ → Written
arrived_outcome (Refused k) l b = record { number = refused k; bytes = l }
arrived_outcome Noted l b = leaving (noted (read_report b) (read_mirror l))
arrived_outcome Applied l b = leaving (applied (read_report b) (read_mirror l))

unfoldable pub arrival : List ℕ → List ℕ → Written
arrival l b = arrived_outcome (arrived l b) l b
