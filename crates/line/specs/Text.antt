-- The values that hold a line's characters: what the contracts say of `Text` and `Reading` (`src/text.rt`).
-- Assumes nothing.
use Rattle.std.specs.Prelude.{if◌then◌else◌, ℕ, ◌≡◌, List, length, take, drop, eqb}
use Rattle.grid.specs.Screen.{Screen}
use Rattle.line.specs.Line.{joined}
use Rattle.line.specs.declared.text.Text.{Text}
use Rattle.line.specs.declared.text.Reading.{Reading}

-- the characters that a text holds
unfoldable pub text_of : Text → List ℕ
text_of t = take t.len t.bytes

-- the text t holds the characters cs, with the cursor at i
pub record Holds (t : Text) (cs : List ℕ) (i : ℕ) : Type 0 where
  pub text : text_of t ≡ cs
  pub at : t.index ≡ i

-- the reading t is cs
pub record Reads (t : Reading) (cs : List ℕ) : Type 0 where
  pub text : take t.len t.bytes ≡ cs
  pub count : t.len ≡ length cs

-- n characters of the screen's rows from start on. Shut, so that `search` meets it as one call
unfoldable pub line_from : Screen → ℕ → ℕ → List ℕ
line_from s start n = take n (joined s.head.width (drop start s.rows))

-- the cursor's column where it is on the line's last row
unfoldable pub column_on : ℕ → ℕ → ℕ → ℕ
column_on row end col = if eqb row end then col else 0
