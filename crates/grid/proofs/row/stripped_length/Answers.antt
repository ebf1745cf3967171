-- `grid::row::stripped_length` meets its contract.
use Rattle.std.proofs.Common.{rules, tests}
use Rattle.grid.specs.Screen.{trim, is_space}
use Rattle.grid.proofs.row.stripped_length.Goals as goal

pub returns : goal.returns
unfolding trim is_space
returns c = (c.length_without.ensures.length is_space (search (rules, tests)), search rules)
