-- `grid::row::Row::new` meets its contract.
use Rattle.std.proofs.Common.{rules}
use Rattle.grid.proofs.row.Row.new.Goals as goal

pub returns : goal.returns
returns c = search rules
