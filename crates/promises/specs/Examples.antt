-- Document 01, "Examples": the one list of those marked *, one of document 02, (c), three of (l), four of (a) and four of (g). Those of the screen are on values, those of the mirror are on the
-- bytes that arrive and that `arrival` leaves. `proofs/Checked.antt` has that each holds, by computing it.
-- Assumes nothing.
use Rattle.std.specs.Prelude.{if◌then◌else◌, ℕ, Bool, ◌&&◌, List, [], ◌∷◌, ◌++◌, get_or, take, drop, replicate}
use Rattle.grid.specs.Pair.{pair_at}
use Rattle.grid.specs.declared.pair.Pair.{Pair}
use Rattle.grid.specs.Screen.{State, row_at, new_state, trim, same}
use Rattle.grid.specs.Record.{state_bytes, pair_of}
use Rattle.line.specs.Line.{row_text}
use Rattle.editor.specs.Call.{Call, answer, step}
use Rattle.editor.specs.Lists.{steps}
use Rattle.editor.specs.Call.Call.{PrintBytes, PrintChecked, PrintWaiting, TypeChar, TypeLimited, Backspace, MoveLeft, WordRight, SetCursor, SetInsert}
use Rattle.report.specs.declared.kind.Kind.TheVariants.{Step}
use Rattle.report.specs.Report.{reported}
use Rattle.mirror.specs.Layout.{NEWEST, RECORD}
use Rattle.mirror.specs.Mirror.{new_mirror, mirror_bytes, arrival}
use Rattle.mirror.specs.Count.{Heard, heard_in, is_level, tally}

pub data Example : Type 0 where
  -- on a new screen of the width, after the calls, what is looked at is this
  after : ℕ → List Call → (State → List ℕ) → List ℕ → Example
  -- of these calls on a new screen of each sitting, the steps of these sittings and serials arrive at a mirror that is new at the first number, and then what
  -- is looked at of the shown and of the newest pair, and the answer, are this, each time
  arrive : ℕ → List Call → (Pair → List ℕ) → List (ℕ × ℕ) → List ℕ → Example

-- ---- what is looked at

unfoldable pub cursor : State → List ℕ
cursor t = t.screen.head.cursor.row ∷ t.screen.head.cursor.col ∷ []

unfoldable pub touched : State → List ℕ
touched t = t.stamp.touched ∷ []

unfoldable pub cr : State → List ℕ
cr t = t.screen.head.cr ∷ []

-- what a call would answer
unfoldable pub answered : Call → State → List ℕ
answered c t = answer c t.screen ∷ []

unfoldable pub flag : ℕ → State → List ℕ
flag r t = (row_at t.screen.rows r).flag ∷ []

unfoldable pub text : ℕ → State → List ℕ
text r t = trim (row_text t.screen r)

unfoldable pub cell : ℕ → ℕ → State → List ℕ
cell r c t = get_or (row_at t.screen.rows r).chars c 0 ∷ []

unfoldable pub both : (State → List ℕ) → (State → List ℕ) → State → List ℕ
both f g t = f t ++ g t

unfoldable pub next : Call → (State → List ℕ) → State → List ℕ
next c f t = f (step c t)

unfoldable pub serial : Pair → List ℕ
serial p = p.serial ∷ []

unfoldable pub pair : Pair → List ℕ
pair p = p.sitting ∷ p.serial ∷ []

-- ---- the list

abbrev pub A : ℕ
A = 65

unfoldable pub examples : List Example
examples =
    -- print 80 "A": row 0 flagged, cursor (1,0); then 13: unflagged, still (1,0)
    after 80 (PrintBytes (replicate 80 A) ∷ []) (both (flag 0) cursor) (1 ∷ 1 ∷ 0 ∷ [])
    ∷ after 80 (PrintBytes (replicate 80 A) ∷ PrintBytes (13 ∷ []) ∷ []) (both (flag 0) cursor) (0 ∷ 1 ∷ 0 ∷ [])
    -- 13,10 gives (1,0); 10,13 gives (2,0)
    ∷ after 80 (PrintBytes (13 ∷ 10 ∷ []) ∷ []) cursor (1 ∷ 0 ∷ [])
    ∷ after 80 (PrintBytes (10 ∷ 13 ∷ []) ∷ []) cursor (2 ∷ 0 ∷ [])
    -- type 255 "A": (3,15); the 256th touches no row
    ∷ after 80 (replicate 255 (TypeChar A)) (both cursor (next (TypeChar A) touched)) (3 ∷ 15 ∷ 0 ∷ [])
    -- width 40, type 40 "A", backspace: nothing goes
    ∷ after 40 (replicate 40 (TypeChar A) ++ (Backspace ∷ [])) (both touched (text 0)) (0 ∷ replicate 40 A)
    -- "AB", left, insert on, "X": "AXB", (0,2)
    ∷ after 80 (TypeChar A ∷ TypeChar 66 ∷ MoveLeft ∷ SetInsert 1 ∷ TypeChar 88 ∷ []) (both (text 0) cursor) (A ∷ 88 ∷ 66 ∷ 0 ∷ 2 ∷ [])
    -- cursor (0,10), backspace: (0,9), touched 0
    ∷ after 80 (SetCursor 0 10 ∷ Backspace ∷ []) (both cursor touched) (0 ∷ 9 ∷ 0 ∷ [])
    -- print 320 "A", cursor (0,0), type "B": row 3 keeps 15 "A", unflagged, touched 9
    ∷ after 80 (PrintBytes (replicate 320 A) ∷ SetCursor 0 0 ∷ TypeChar 66 ∷ []) (both (text 3) (both (flag 3) touched)) (replicate 15 A ++ (0 ∷ 9 ∷ []))
    -- cursor (23,79), print "Z": "Z" at (22,79), row 22 flagged, (23,0)
    ∷ after 80 (SetCursor 23 79 ∷ PrintBytes (90 ∷ []) ∷ []) (both (cell 22 79) (both (flag 22) cursor)) (90 ∷ 1 ∷ 23 ∷ 0 ∷ [])
    -- blank screen, `word_right`: (23,79)
    ∷ after 80 (WordRight ∷ []) cursor (23 ∷ 79 ∷ [])
    -- (l): the bit is set by a print whose last byte is 13, and left by one that takes none; an ignored byte is taken too; every other call clears it
    ∷ after 80 (PrintBytes (A ∷ 13 ∷ []) ∷ PrintChecked [] ∷ []) (both cursor cr) (1 ∷ 0 ∷ 1 ∷ [])
    ∷ after 80 (PrintBytes (13 ∷ 7 ∷ []) ∷ []) (both cursor cr) (1 ∷ 0 ∷ 0 ∷ [])
    ∷ after 80 (PrintChecked (13 ∷ []) ∷ MoveLeft ∷ []) (both cursor cr) (0 ∷ 79 ∷ 0 ∷ [])
    -- (a): on row 23, 13,10 and "A" with a limit of 0 take nothing, with 1 all, 13 and its 10 together, and the bit goes by the last byte taken
    ∷ after 80 (SetCursor 23 0 ∷ []) (answered (PrintWaiting (13 ∷ 10 ∷ A ∷ 13 ∷ []) 0)) (0 ∷ [])
    ∷ after 80 (SetCursor 23 0 ∷ []) (answered (PrintWaiting (13 ∷ 10 ∷ A ∷ 13 ∷ []) 1)) (65539 ∷ [])
    ∷ after 80 (SetCursor 23 0 ∷ PrintWaiting (A ∷ 13 ∷ 10 ∷ 13 ∷ []) 1 ∷ []) (both cursor (both cr (text 22))) (23 ∷ 0 ∷ 0 ∷ A ∷ [])
    -- a character in the last column scrolls
    ∷ after 80 (SetCursor 23 79 ∷ []) (answered (PrintWaiting (7 ∷ A ∷ []) 0)) (1 ∷ [])
    -- (g): a field of 3 takes no fourth character, neither behind the others nor, with insert on, among them; one that stands there is typed over
    ∷ after 80 (replicate 4 (TypeLimited A 3)) (both (text 0) cursor) (A ∷ A ∷ A ∷ 0 ∷ 3 ∷ [])
    ∷ after 80 (replicate 3 (TypeLimited A 3) ++ (MoveLeft ∷ SetInsert 1 ∷ TypeLimited 66 3 ∷ SetInsert 0 ∷ TypeLimited 67 3 ∷ [])) (both (text 0) cursor) (A ∷ A ∷ 67 ∷ 0 ∷ 3 ∷ [])
    -- padding counts; and a longer line is typed over behind the limit
    ∷ after 80 (SetCursor 0 10 ∷ TypeLimited A 10 ∷ []) (both (text 0) cursor) (0 ∷ 10 ∷ [])
    ∷ after 80 (PrintBytes (A ∷ A ∷ A ∷ []) ∷ SetCursor 0 2 ∷ TypeLimited 66 1 ∷ []) (both (text 0) cursor) (A ∷ A ∷ 66 ∷ 0 ∷ 3 ∷ [])
    -- steps 1, 3, 2, 3 arrive: (m, n) is (1,1), (1,3), (2,3), (3,3); and the answer is 1 if that is level, else 0
    ∷ arrive 0 (TypeChar A ∷ PrintBytes (13 ∷ 66 ∷ []) ∷ Backspace ∷ []) serial ((0, 1) ∷ (0, 3) ∷ (0, 2) ∷ (0, 3) ∷ [])
    (1 ∷ 1 ∷ 1 ∷ 1 ∷ 3 ∷ 0 ∷ 2 ∷ 3 ∷ 0 ∷ 3 ∷ 3 ∷ 1 ∷ [])
    -- (c): a step of another sitting, whatever its serial, only counts: at a mirror of sitting 5, after its step 1, steps 2 of the sittings 3 and 7, then its own
    ∷ arrive 5 (TypeChar A ∷ TypeChar A ∷ []) pair ((5, 1) ∷ (3, 2) ∷ (7, 2) ∷ (5, 2) ∷ [])
    (5 ∷ 1 ∷ 5 ∷ 1 ∷ 1 ∷ 5 ∷ 1 ∷ 5 ∷ 1 ∷ 1 ∷ 5 ∷ 1 ∷ 7 ∷ 2 ∷ 0 ∷ 5 ∷ 2 ∷ 7 ∷ 2 ∷ 0 ∷ [])
    ∷ []

-- ---- the check

-- the bytes of the step reports of these sittings and serials
unfoldable pub reports : List Call → List (ℕ × ℕ) → List (List ℕ)
reports cs [] = []
reports cs (p ∷ ps) = reported Step (state_bytes (steps (take p.1 cs) (new_state 80 p.0))) ∷ reports cs ps

module _ (look : Pair → List ℕ) where
  -- after each arrival the shown and the newest pair, as they stand in the mirror's bytes, and what it answered
  unfoldable pub mirrored : List ℕ → List (List ℕ) → List ℕ
  mirrored l [] = []
  mirrored l (b ∷ bs) =
      let o = arrival l b in
      look (pair_of (drop RECORD o.bytes)) ++ (look (pair_at o.bytes NEWEST) ++ (o.number ∷ mirrored o.bytes bs))

  -- the same as it is counted from a number on: hs is what those before have said, and it answers 1 if the pairs are the same
  unfoldable pub counts : ℕ → List Heard → List (List ℕ) → List ℕ
  counts number hs [] = []
  counts number hs (b ∷ bs) =
      let now = hs ++ (heard_in b ∷ []) in
      let t = tally number now in
      look t.shown ++ (look t.newest ++ ((if is_level t then 1 else 0) ∷ counts number now bs))

unfoldable pub holds : Example → Bool
holds (after w cs look expected) = same (look (steps cs (new_state w 0))) expected
holds (arrive number cs look pairs expected) =
    same (mirrored look (mirror_bytes (new_mirror 80 number)) (reports cs pairs)) expected && same (counts look number [] (reports cs pairs)) expected
