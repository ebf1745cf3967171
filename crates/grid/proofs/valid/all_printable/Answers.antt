-- `grid::valid::all_printable` meets its contract.
use Rattle.std.proofs.Common.{rules}
use Rattle.grid.specs.Screen.{printable}
use Rattle.grid.proofs.valid.all_printable.Goals as goal

pub returns : goal.returns
returns c = c.all_pass.ensures printable (search rules)
