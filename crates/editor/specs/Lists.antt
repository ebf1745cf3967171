-- Lists of changing calls. Of a list's calls the first finds a record, and each later one what the call before left.
-- Assumes nothing.
use Rattle.std.specs.Prelude.{if◌then◌else◌, ℕ}
use mathlib.Core.List.{List, [], ◌∷◌, foldl}
use Rattle.octets.specs.Answer.{is_refusal}
use Rattle.grid.specs.Screen.{Screen, State}
use Rattle.editor.specs.Call.{Call, after_call, step}
use Rattle.editor.specs.Outcome.{changing}

-- the record that calls leave of the record l
unfoldable pub record_left : List ℕ → List Call → List ℕ
record_left l cs = foldl (λ l c. (changing c l).rec) l cs

-- the accepted ones of some calls on the record l: those whose number is no refusal
unfoldable pub accepted : List ℕ → List Call → List Call
accepted l [] = []
accepted l (c ∷ cs) = if is_refusal (changing c l).number then accepted (changing c l).rec cs else c ∷ accepted (changing c l).rec cs

-- ---- accepted calls, by the rules alone

-- what they make of a screen
unfoldable pub screen_left : Screen → List Call → Screen
screen_left s cs = foldl (λ s c. after_call c s) s cs

-- what they make of what a record holds
unfoldable pub steps : List Call → State → State
steps [] t = t
steps (c ∷ cs) t = steps cs (step c t)
