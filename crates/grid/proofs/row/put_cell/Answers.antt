-- `grid::row::put_cell` meets its contract.
use Rattle.std.proofs.Common.{rules}
use Rattle.grid.proofs.RowLaws.{celled}
use Rattle.grid.proofs.row.put_cell.Goals as goal

pub returns : goal.returns
returns c = search (rules, celled)
