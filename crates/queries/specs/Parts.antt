-- What the code computes on the way: a cell of a record.
-- Assumes nothing.
use Rattle.std.specs.Prelude.{ℕ, ◌+◌, ◌*◌, List, get_or}
use Rattle.grid.specs.Record.{row_of}

unfoldable pub cell_of : List ℕ → ℕ → ℕ → ℕ
cell_of l r c = get_or (row_of l r).chars c 0 + 256 * get_or (row_of l r).attrs c 0
