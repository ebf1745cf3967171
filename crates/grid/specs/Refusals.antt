-- Document 01, "What a call answers": the refusals that all calls on a lent screen record l share.
-- Assumes nothing.
use Rattle.std.specs.Prelude.{ℕ, Bool, ◌&&◌, List, [], ◌∷◌, eqb, length}
use Rattle.grid.specs.Layout.{SIZE}
use Rattle.grid.specs.Record.{validb}

-- lengths says that every other lent slice has a length that is taken
unfoldable pub record_tests : Bool → List ℕ → List (ℕ × Bool)
record_tests lengths l = (1, eqb (length l) SIZE && lengths) ∷ (2, validb l) ∷ []
