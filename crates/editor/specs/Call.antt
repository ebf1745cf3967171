-- The 27 changing calls, and what an accepted one does to what a record holds.
-- Assumes nothing.
use Rattle.std.specs.Prelude.{if◌then◌else◌, ℕ, Bool, true, not, ◌&&◌, List, [], ◌∷◌, leb, eqb, length}
use Rattle.octets.specs.Refusals.{all_pass}
use Rattle.grid.specs.Pair.{next_pair}
use Rattle.grid.specs.Screen.{Screen, State, with_bit, move_to, editable, touched_rows}
use Rattle.values.specs.Cursor.{at, home, left, right, up, down, clamp}
use Rattle.values.specs.Attr.{attr_of}
use Rattle.octets.specs.Width.{widthb}
use Rattle.line.specs.Line.{MAX-LOGICAL, line_text}
use Rattle.editor.specs.Print.{print_bytes, splits}
use Rattle.editor.specs.Waiting.{taken, waited}
use Rattle.editor.specs.Typing.{type_limited, type_char, backspace, delete_char, erase_to_end}
use Rattle.editor.specs.Lines.{escape_line, ctrl_enter, take_logical_line, break_line}
use Rattle.editor.specs.Tab.{tab}
use Rattle.editor.specs.Words.{word_left, word_right}
use Rattle.editor.specs.Motion.{end_of_line}
use Rattle.editor.specs.Modes.{clear, set_width, set_insert, set_attr, set_keys_on}

-- `take_logical_line` has the output that it is lent, as it is at entry
pub data Call : Type 0 where
  PrintBytes PrintChecked : List ℕ → Call
  PrintWaiting : List ℕ → ℕ → Call
  TypeChar : ℕ → Call
  TypeLimited : ℕ → ℕ → Call
  Backspace DeleteChar EraseToEnd EscapeLine Tab CtrlEnter : Call
  TakeLogicalLine : List ℕ → Call
  BreakLine : Call
  MoveLeft MoveRight MoveUp MoveDown Home WordLeft WordRight EndOfLine Clear : Call
  SetWidth : ℕ → Call
  SetCursor : ℕ → ℕ → Call
  SetInsert SetAttr SetKeysOn : ℕ → Call

-- ---- the rule of a call

-- of a print, the bytes that it takes
pub data Printed : Type 0 where
  NoPrint : Printed
  Took : List ℕ → Printed

pub record Rule : Type 0 where
  -- the output lent, and whether every lent slice beside the record has a length that is taken: else refusal 1
  pub output : List ℕ
  pub lengths : Bool
  -- its own refusals, in their order: tests of its arguments, on the screen
  pub own : Screen → List (ℕ × Bool)
  -- what it does to the screen, the bit of document 02, (l), aside; and of a print the bytes that it takes, which decide about the bit
  pub apply : Screen → Screen
  pub printed : Screen → Printed
  -- the text handed out, and the number answered
  pub submitted : Screen → List ℕ
  pub answer : Screen → ℕ

-- a call with no output, no text and the answer 0
abbrev pub plain : (Screen → List (ℕ × Bool)) → (Screen → Screen) → Rule
plain own f = record { output = []; lengths = true; own = own; apply = f; printed = λ s. NoPrint; submitted = λ s. []; answer = λ s. 0 }

abbrev pub always : (Screen → Screen) → Rule
always f = plain (λ s. []) f

-- ok says that its arguments are in range
abbrev pub given : Bool → (Screen → Screen) → Rule
given ok f = plain (λ s. (3, ok) ∷ []) f

-- a print, the bytes that it takes, and what it answers where these are taken
abbrev pub printing : (Screen → List (ℕ × Bool)) → (Screen → List ℕ) → (Screen → List ℕ → ℕ) → Rule
printing own takes n =
    record { output = []; lengths = true; own = own; apply = λ s. print_bytes s (takes s); printed = λ s. Took (takes s); submitted = λ s. []; answer = λ s. n s (takes s) }

-- a call that hands out a text in an output of at least room bytes, and answers its length
abbrev pub handing : List ℕ → ℕ → (Screen → List ℕ) → (Screen → Screen) → Rule
handing out room text f =
    record { output = out; lengths = leb room (length out); own = λ s. []; apply = f; printed = λ s. NoPrint; submitted = text; answer = λ s. length (text s) }

-- document 02, (g): "a limit L from 1 to 255", and a character
unfoldable pub limited_ok : ℕ → ℕ → Bool
limited_ok ch limit = leb 1 limit && leb limit MAX-LOGICAL && leb ch 255

unfoldable pub rule : Call → Rule
rule (PrintBytes bs) = printing (λ s. []) (λ s. bs) (λ s bs. 0)
rule (PrintChecked bs) = printing (λ s. (13, not (splits s bs)) ∷ []) (λ s. bs) (λ s bs. 0)
rule (PrintWaiting bs rows) = printing (λ s. (3, leb rows 1000) ∷ (7, leb (length bs) 65535) ∷ []) (λ s. taken s rows bs) waited
rule (TypeChar ch) = given (leb ch 255) (λ s. type_char s ch)
rule (TypeLimited ch limit) = given (limited_ok ch limit) (λ s. type_limited limit s ch)
rule Backspace = always backspace
rule DeleteChar = always delete_char
rule EraseToEnd = always erase_to_end
rule EscapeLine = always escape_line
rule Tab = always tab
rule CtrlEnter = always ctrl_enter
rule (TakeLogicalLine out) = handing out MAX-LOGICAL line_text take_logical_line
rule BreakLine = always break_line
rule MoveLeft = always (λ s. move_to s (left s.head.width s.head.cursor))
rule MoveRight = always (λ s. move_to s (right s.head.width (editable s.head.keys) s.head.cursor))
rule MoveUp = always (λ s. move_to s (up s.head.cursor))
rule MoveDown = always (λ s. move_to s (down (editable s.head.keys) s.head.cursor))
rule Home = always (λ s. move_to s home)
rule WordLeft = always word_left
rule WordRight = always word_right
rule EndOfLine = always end_of_line
rule Clear = always clear
rule (SetWidth w) = given (widthb w) (set_width w)
rule (SetCursor r c) = always (λ s. move_to s (clamp s.head.width (editable s.head.keys) (at r c)))
rule (SetInsert v) = given (leb v 1) (set_insert v)
rule (SetAttr a) = given (leb a 255) (set_attr (attr_of a))
rule (SetKeysOn v) = given (leb v 1) (set_keys_on v)

unfoldable pub output : Call → List ℕ
output c = (rule c).output

unfoldable pub lengths : Call → Bool
lengths c = (rule c).lengths

unfoldable pub own : Call → Screen → List (ℕ × Bool)
own c s = (rule c).own s

-- no refusal of its own
unfoldable pub in_range : Call → Screen → Bool
in_range c s = all_pass (own c s)

unfoldable pub apply : Call → Screen → Screen
apply c s = (rule c).apply s

unfoldable pub submitted : Call → Screen → List ℕ
submitted c s = (rule c).submitted s

unfoldable pub answer : Call → Screen → ℕ
answer c s = (rule c).answer s

-- ---- document 02, (l): "the next bit is set by a print whose last byte taken is 13, left by one that takes none and cleared by every other changing call"

-- a print: each byte taken sets or clears it, so the last one decides
unfoldable pub last_cr : ℕ → List ℕ → ℕ
last_cr cr [] = cr
last_cr cr (b ∷ bs) = last_cr (if eqb b 13 then 1 else 0) bs

unfoldable pub cr_left : Printed → ℕ → ℕ
cr_left NoPrint cr = 0
cr_left (Took bs) cr = last_cr cr bs

unfoldable pub cr_after : Call → Screen → ℕ
cr_after c s = cr_left ((rule c).printed s) s.head.cr

-- ---- an accepted call

-- what it makes of a screen
unfoldable pub after_call : Call → Screen → Screen
after_call c s = with_bit (apply c s) (cr_after c s)

-- the serial goes up by 1 in the same sitting, and the touched rows are those that differ
unfoldable pub step : Call → State → State
step c t =
    let s = after_call c t.screen in
    record { screen = s; stamp = record { pair = next_pair t.stamp.pair; touched = touched_rows t.screen.rows s.rows } }
