-- `report::row::write_row` meets its contract.
use Rattle.std.proofs.Common.{rules}
use Rattle.report.proofs.RowLaws.{row_written}
use Rattle.report.proofs.row.write_row.Goals as goal

pub returns : goal.returns
returns c = search (rules, row_written)
