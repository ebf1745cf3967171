-- `grid::row::Row::flag` meets its contract.
use Rattle.std.proofs.Common.{rules}
use Rattle.grid.proofs.row.Row.flag.Goals as goal

pub returns : goal.returns
returns c = search rules
