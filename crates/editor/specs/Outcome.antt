-- Document 01, "What a call answers": what an exported call answers and leaves, for every lent slice, refused or accepted.
-- l is a lent screen record and out a lent output, as they are at entry.
-- Assumes nothing.
use Rattle.std.specs.Prelude.{if◌then◌else◌, ℕ, ◌+◌, ◌*◌, Bool, true, not, ◌&&◌, List, ◌∷◌, ◌++◌, [], leb, ltb, eqb, length, get_or}
use Rattle.octets.specs.Answer.{refused, over, Written, unless, wrote}
use Rattle.octets.specs.Refusals.{first_of}
use Rattle.grid.specs.Refusals.{record_tests}
use Rattle.grid.specs.Layout.{SIZE}
use Rattle.grid.specs.Screen.{Screen, row_at, editable, new_state}
use Rattle.values.specs.Attr.{byte_of}
use Rattle.grid.specs.Record.{serial_of, screen_of, read_state, state_bytes}
use Rattle.line.specs.Line.{MAX-LOGICAL, line_text}
use Rattle.editor.specs.Text.{snapshot}
use Rattle.editor.specs.Call.{Call, output, lengths, own, submitted, answer, step}

-- ---- changing calls

-- the number answered, and the final bytes of the lent record and of the lent output
pub record Outcome : Type 0 where
  pub number : ℕ
  pub rec : List ℕ
  pub out : List ℕ

-- a changing call that finds this serial is refused
abbrev pub LAST-SERIAL : ℕ
LAST-SERIAL = 4294967295

unfoldable pub serial_tests : List ℕ → List (ℕ × Bool)
serial_tests l = (4, not (eqb (serial_of l) LAST-SERIAL)) ∷ []

-- what can refuse the call c
unfoldable pub change_tests : Call → List ℕ → List (ℕ × Bool)
change_tests c l = record_tests (lengths c) l ++ (own c (screen_of l) ++ serial_tests l)

unfoldable pub changing : Call → List ℕ → Outcome
changing c l =
    let k = first_of (change_tests c l) in
    let s = screen_of l in
    if eqb k 0 then record { number = answer c s; rec = state_bytes (step c (read_state l)); out = over (submitted c s) (output c) }
    else record { number = refused k; rec = l; out = output c }

-- ---- new screen

-- the old bytes are not read, so their length alone can be refused
unfoldable pub creating : ℕ → ℕ → List ℕ → Written
creating w sitting l = unless (first_of ((1, eqb (length l) SIZE) ∷ [])) l (record { number = 0; bytes = state_bytes (new_state w sitting) })

-- ---- reading calls, which answer a number and change nothing

pub data Query : Type 0 where
  AskWidth AskCursor AskAttr AskEditableRows : Query
  -- the cell in a row and a column, and the flag of a row
  AskCell : ℕ → ℕ → Query
  AskContinues : ℕ → Query

-- a row 0 to 24 and a column below the width: else refusal 3
unfoldable pub inside : Query → Screen → Bool
inside AskWidth s = true
inside AskCursor s = true
inside AskAttr s = true
inside AskEditableRows s = true
inside (AskCell r c) s = leb r 24 && ltb c s.head.width
inside (AskContinues r) s = leb r 24

unfoldable pub value : Query → Screen → ℕ
value AskWidth s = s.head.width
value AskCursor s = s.head.cursor.col + 256 * s.head.cursor.row
value AskAttr s = byte_of s.head.attr
value AskEditableRows s = editable s.head.keys
value (AskCell r c) s = get_or (row_at s.rows r).chars c 0 + 256 * get_or (row_at s.rows r).attrs c 0
value (AskContinues r) s = (row_at s.rows r).flag

-- what can refuse the query q
unfoldable pub query_tests : Query → List ℕ → List (ℕ × Bool)
query_tests q l = record_tests true l ++ ((3, inside q (screen_of l)) ∷ [])

unfoldable pub asking : Query → List ℕ → ℕ
asking q l =
    let k = first_of (query_tests q l) in
    if eqb k 0 then value q (screen_of l) else refused k

-- ---- text calls

pub data TextCall : Type 0 where
  LogicalText Snapshot : TextCall

-- the shortest output that is taken
unfoldable pub room : TextCall → ℕ
room LogicalText = MAX-LOGICAL
room Snapshot = 2024

unfoldable pub text_of : TextCall → Screen → List ℕ
text_of LogicalText s = line_text s
text_of Snapshot s = snapshot s

unfoldable pub texting : TextCall → List ℕ → List ℕ → Written
texting q l out = unless (first_of (record_tests (leb (room q) (length out)) l)) out (wrote (text_of q (screen_of l)) out)
