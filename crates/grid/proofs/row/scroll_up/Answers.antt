-- `grid::row::scroll_up` meets its contract.
use Rattle.std.proofs.Common.{rules}
use Rattle.grid.proofs.RowScroll.{scroll_end}
use Rattle.grid.proofs.row.scroll_up.Goals as goal

pub returns : goal.returns
returns c = search (rules, scroll_end)
