-- `grid::row::set_flag` meets its contract.
use Rattle.std.proofs.Common.{rules}
use Rattle.grid.proofs.RowLaws.{flag_set}
use Rattle.grid.proofs.row.set_flag.Goals as goal

pub returns : goal.returns
returns c = search (rules, flag_set)
