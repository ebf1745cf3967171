-- `grid::row::Row::text_length` meets its contract.
use Rattle.std.proofs.Common.{rules}
use Rattle.grid.proofs.row.Row.text_length.Goals as goal

pub returns : goal.returns
returns c = search rules
