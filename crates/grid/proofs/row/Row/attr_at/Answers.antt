-- `grid::row::Row::attr_at` meets its contract.
use Rattle.std.proofs.Common.{rules}
use Rattle.grid.proofs.row.Row.attr_at.Goals as goal

pub returns : goal.returns
returns c = search rules
