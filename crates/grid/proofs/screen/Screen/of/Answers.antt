-- `grid::screen::Screen::of` meets its contract.
use Rattle.std.proofs.Common.{rules}
use Rattle.grid.proofs.screen.Screen.of.Goals as goal

pub returns : goal.returns
returns c = search rules
