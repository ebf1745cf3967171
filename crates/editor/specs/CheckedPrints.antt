-- Document 02, (l): what is promised of the checked print.
-- Assumes nothing.
use Rattle.std.specs.Prelude.{ℕ, ◌≡◌, true, false, List, [], ◌∷◌, ◌++◌}
use Rattle.octets.specs.Answer.{is_refusal}
use Rattle.octets.specs.Test.{every, is_byte}
use Rattle.grid.specs.Conditions.{ValidRecord}
use Rattle.grid.specs.Record.{screen_of}
use Rattle.editor.specs.Call.{Call}
use Rattle.editor.specs.Call.Call.{PrintBytes, PrintChecked}
use Rattle.editor.specs.Outcome.{changing}
use Rattle.editor.specs.Lists.{accepted, record_left}

-- the checked prints of some inputs, in turn
unfoldable pub in_turn : List (List ℕ) → List Call
in_turn [] = []
in_turn (bs ∷ inputs) = PrintChecked bs ∷ in_turn inputs

-- the inputs together
unfoldable pub together : List (List ℕ) → List ℕ
together [] = []
together (bs ∷ inputs) = bs ++ together inputs

pub record CheckedPrints : Type 0 where
  -- "tests what callers had to keep and otherwise prints as that does": an accepted one answers and leaves what the old print does
  pub as_print : (bs l : List ℕ) → is_refusal (changing (PrintChecked bs) l).number ≡ false → changing (PrintChecked bs) l ≡ changing (PrintBytes bs) l
  -- "checked prints in turn, if accepted, leave the cells, flags and cursor of one print of their inputs together", and with the whole screen the bit: on any
  -- valid record, for any inputs, empty ones among them, if the accepted ones are all of them
  pub each_in_turn : (inputs : List (List ℕ)) (l : List ℕ) → every is_byte l ≡ true → ValidRecord l → accepted l (in_turn inputs) ≡ in_turn inputs
      → screen_of (record_left l (in_turn inputs)) ≡ screen_of (changing (PrintBytes (together inputs)) l).rec
