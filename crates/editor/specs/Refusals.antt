-- Document 01, "What a call answers", with (a), (g) and (l) of document 02: when exactly a call is refused. The conditions are written out here, apart from the tests by which
-- `specs/Outcome.antt` finds a refusal. `proofs/Refusals.antt` has for each kind of call that it answers by them.
-- Assumes nothing.
use Rattle.std.specs.Prelude.{ℕ, ◌≤◌, ◌<◌, ◌≡◌, List, ◌∷◌, ◌≢◌, length}
use Rattle.octets.specs.Answer.{refused, over, wrote}
use Rattle.octets.specs.Refusals.{Refuses}
use Rattle.grid.specs.Layout.{SIZE}
use Rattle.grid.specs.Screen.{Screen, new_state}
use Rattle.grid.specs.Record.{serial_of, screen_of, read_state, state_bytes}
use Rattle.grid.specs.Conditions.{ValidRecord}
use Rattle.editor.specs.Call.{Call, output, submitted, answer, step}
use Rattle.editor.specs.Call.Call.{PrintChecked, PrintWaiting, TypeChar, TypeLimited, TakeLogicalLine, SetWidth, SetInsert, SetAttr, SetKeysOn}
use Rattle.editor.specs.Outcome.{changing, creating, Query, value, asking, TextCall, text_of, texting}
use Rattle.editor.specs.Outcome.Query.{AskCell, AskContinues}
use Rattle.editor.specs.Outcome.TextCall.{LogicalText, Snapshot}

-- ---- changing calls

-- a lent slice beside the record has a length that is not taken: the line output is under 255
pub data WrongLength : Call → Type 0 where
  line : {out : List ℕ} → length out < 255 → WrongLength (TakeLogicalLine out)

-- an argument is refused, each with its number: a character or attribute above 255, a switch above 1, a width neither 40 nor 80
pub data ArgumentRefused (s : Screen) : Call → ℕ → Type 0 where
  character : {ch : ℕ} → 255 < ch → ArgumentRefused s (TypeChar ch) 3
  limited_character : {ch limit : ℕ} → 255 < ch → ArgumentRefused s (TypeLimited ch limit) 3
  attribute : {a : ℕ} → 255 < a → ArgumentRefused s (SetAttr a) 3
  insert : {v : ℕ} → 1 < v → ArgumentRefused s (SetInsert v) 3
  keys : {v : ℕ} → 1 < v → ArgumentRefused s (SetKeysOn v) 3
  width : {w : ℕ} → w ≢ 40 → w ≢ 80 → ArgumentRefused s (SetWidth w) 3
  -- document 02, (g): "a limit L from 1 to 255"
  low_limit : {ch limit : ℕ} → limit < 1 → ArgumentRefused s (TypeLimited ch limit) 3
  high_limit : {ch limit : ℕ} → 255 < limit → ArgumentRefused s (TypeLimited ch limit) 3
  -- document 02, (a): a row limit "of 0 to 1,000"; "an input longer than 65,535 bytes"
  row_limit : {bs : List ℕ} {rows : ℕ} → 1000 < rows → ArgumentRefused s (PrintWaiting bs rows) 3
  input : {bs : List ℕ} {rows : ℕ} → 65535 < length bs → ArgumentRefused s (PrintWaiting bs rows) 7
  -- document 02, (l): "an input that begins with 10 while that bit is set"
  split : {bs : List ℕ} → s.head.cr ≡ 1 → ArgumentRefused s (PrintChecked (10 ∷ bs)) 13

-- the conditions under which a changing call is refused, each with its number; so have the other kinds of call
pub data ChangeRefused (c : Call) (l : List ℕ) : ℕ → Type 0 where
  record_length : length l ≢ SIZE → ChangeRefused c l 1
  lent_length : WrongLength c → ChangeRefused c l 1
  layout : ¬ ValidRecord l → ChangeRefused c l 2
  argument : {k : ℕ} → ArgumentRefused (screen_of l) c k → ChangeRefused c l k
  last_serial : serial_of l ≡ 4294967295 → ChangeRefused c l 4

pub record ChangingAnswers (c : Call) (l : List ℕ) : Type 0 where
  pub number : Refuses (ChangeRefused c l) (changing c l).number
  -- refused, it changes no lent byte
  pub kept : refused 1 ≤ (changing c l).number → ((changing c l).rec ≡ l) × ((changing c l).out ≡ output c)
  -- accepted, it does what the rules say
  pub done : (changing c l).number < refused 1 → changing c l
      ≡ record {
        number = answer c (screen_of l);
        rec = state_bytes (step c (read_state l));
        out = over (submitted c (screen_of l)) (output c);
      }

-- ---- new screen

pub data NewRefused (l : List ℕ) : ℕ → Type 0 where
  record_length : length l ≢ SIZE → NewRefused l 1

pub record CreatingAnswers (w sitting : ℕ) (l : List ℕ) : Type 0 where
  pub number : Refuses (NewRefused l) (creating w sitting l).number
  pub kept : refused 1 ≤ (creating w sitting l).number → (creating w sitting l).bytes ≡ l
  pub done : (creating w sitting l).number < refused 1 → creating w sitting l ≡ record { number = 0; bytes = state_bytes (new_state w sitting) }

-- ---- reading calls

-- `cell` takes a row 0 to 24 and a column below the width, `continues` a row 0 to 24
pub data Outside (s : Screen) : Query → Type 0 where
  cell_row : {r c : ℕ} → 24 < r → Outside s (AskCell r c)
  cell_column : {r c : ℕ} → s.head.width ≤ c → Outside s (AskCell r c)
  continues_row : {r : ℕ} → 24 < r → Outside s (AskContinues r)

pub data QueryRefused (q : Query) (l : List ℕ) : ℕ → Type 0 where
  record_length : length l ≢ SIZE → QueryRefused q l 1
  layout : ¬ ValidRecord l → QueryRefused q l 2
  argument : Outside (screen_of l) q → QueryRefused q l 3

pub record AskingAnswers (q : Query) (l : List ℕ) : Type 0 where
  pub number : Refuses (QueryRefused q l) (asking q l)
  pub done : asking q l < refused 1 → asking q l ≡ value q (screen_of l)

-- ---- text calls

-- the line output is under 255, the snapshot output under 2,024
pub data ShortText (out : List ℕ) : TextCall → Type 0 where
  line : length out < 255 → ShortText out LogicalText
  picture : length out < 2024 → ShortText out Snapshot

pub data TextRefused (q : TextCall) (l out : List ℕ) : ℕ → Type 0 where
  record_length : length l ≢ SIZE → TextRefused q l out 1
  output_length : ShortText out q → TextRefused q l out 1
  layout : ¬ ValidRecord l → TextRefused q l out 2

pub record TextingAnswers (q : TextCall) (l out : List ℕ) : Type 0 where
  pub number : Refuses (TextRefused q l out) (texting q l out).number
  pub kept : refused 1 ≤ (texting q l out).number → (texting q l out).bytes ≡ out
  pub done : (texting q l out).number < refused 1 → texting q l out ≡ wrote (text_of q (screen_of l)) out
