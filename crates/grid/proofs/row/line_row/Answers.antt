-- `grid::row::line_row` meets its contract.
use Rattle.std.proofs.Common.{rules}
use Rattle.grid.proofs.RowLaws.{lined}
use Rattle.grid.proofs.row.line_row.Goals as goal

pub returns : goal.returns
returns c = search (rules, lined)
