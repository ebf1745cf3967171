-- What the functions of `line` hand on: the span of a row. Facts, for contracts.
-- Assumes nothing.
use Rattle.std.specs.Prelude.{ℕ, ◌≤◌, ◌<◌, ◌≡◌}
use Rattle.grid.specs.Screen.{Screen, editable}
use Rattle.line.specs.Line.{start_of, end_of}

-- start to end is the span of the row in the screen s
pub record SpanOf (s : Screen) (row start end : ℕ) : Type 0 where
  pub first : start ≡ start_of s row
  pub last : end ≡ end_of s row
  pub from : start ≤ row
  pub to : row ≤ end
  pub inside : end < editable s.head.keys
