-- `grid::row::Row::of` meets its contract.
use Rattle.std.proofs.Common.{rules}
use Rattle.std.proofs.lemmas.Option.{MatchOption-at_some}
use Rattle.grid.proofs.RowLaws.{row_seen}
use Rattle.grid.proofs.row.Row.of.Goals as goal

pub returns : goal.returns
returns c =
    let chars = MatchOption-at_some _ _ _ c.unwrap.ensures c.as_array.ensures.cases in
    let attrs = MatchOption-at_some _ _ _ c.unwrap-2.ensures c.as_array-2.ensures.cases in
    search (rules, row_seen, chars, attrs, c.new.ensures)
