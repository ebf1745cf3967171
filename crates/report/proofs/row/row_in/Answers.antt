-- `report::row::row_in` meets its contract.
use Rattle.std.proofs.Common.{rules}
use Rattle.report.proofs.RowLaws.{row_seen}
use Rattle.report.proofs.row.row_in.Goals as goal

pub returns : goal.returns
returns c = search (rules, row_seen)
