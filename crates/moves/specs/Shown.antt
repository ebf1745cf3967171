-- How the code makes a snapshot: it looks for the last row that shows a character, and writes the rows up to it.
-- `editor/specs/Text` has the rule; `proofs/TextLaws` has that the two agree.
-- Assumes nothing.
use Rattle.std.specs.Prelude.{if◌then◌else◌, ℕ, zero, suc, ◌≤◌, ◌≡◌, List, [], ◌∷◌, ◌++◌, length, take}
use Rattle.grid.specs.Screen.{Row, row_at, is_empty, trim_by}
use Rattle.octets.specs.Part.{write}
use Rattle.editor.specs.Text.{is_white}

-- the first w characters of a row, right-trimmed
unfoldable pub shown : ℕ → Row → List ℕ
shown w x = trim_by is_white (take w x.chars)

-- of the first n rows, how many there are up to the last that shows a character
unfoldable pub filled_rows : ℕ → List Row → ℕ → ℕ
filled_rows w rows zero = zero
filled_rows w rows (suc n) = if is_empty (shown w (row_at rows n)) then filled_rows w rows n else suc n

-- what rows show, with byte 10 after each
unfoldable pub lines : ℕ → List Row → List ℕ
lines w [] = []
lines w (x ∷ xs) = shown w x ++ (10 ∷ lines w xs)

-- ---- what functions answer and leave, each number with its bound

-- n is the length of what the row x shows
pub record Shows (w : ℕ) (x : Row) (n : ℕ) : Type 0 where
  pub is : n ≡ length (shown w x)
  pub most : n ≤ w

-- n of the first e rows go up to the last that shows a character
pub record Filled (w : ℕ) (rows : List Row) (e n : ℕ) : Type 0 where
  pub is : n ≡ filled_rows w rows e
  pub most : n ≤ e

-- a text of at most k bytes is written to the front of an output, and n is its length
pub record Puts (text : List ℕ) (k : ℕ) (out out' : List ℕ) (n : ℕ) : Type 0 where
  pub count : n ≡ length text
  pub most : n ≤ k
  pub size : length out' ≡ length out
  pub bytes : out' ≡ write out 0 text
