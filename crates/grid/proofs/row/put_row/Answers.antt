-- `grid::row::put_row` meets its contract.
use Rattle.std.proofs.Common.{rules}
use Rattle.grid.proofs.RowLaws.{row_put}
use Rattle.grid.proofs.row.put_row.Goals as goal

pub returns : goal.returns
returns c = search (rules, row_put)
