-- `grid::valid::row_ok` meets its contract.
use Rattle.std.proofs.Common.{rules}
use Rattle.grid.proofs.ValidLaws.{row_test}
use Rattle.grid.proofs.valid.row_ok.Goals as goal

pub returns-then-all_zero : goal.returns-then-all_zero
returns-then-all_zero g c = row_test _ _ _ _ _ c.chars-chars.ensures c.attrs-attrs.ensures (search rules)

pub returns-else-all_zero : goal.returns-else-all_zero
returns-else-all_zero g c = row_test _ _ _ _ _ c.chars-chars.ensures c.attrs-attrs.ensures (search rules)
