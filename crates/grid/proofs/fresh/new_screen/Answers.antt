-- `grid::fresh::new_screen` meets its contract.
use Rattle.std.proofs.Common.{rules}
use Rattle.grid.proofs.FreshLaws.{new_width, new_fits, new_end}
use Rattle.grid.proofs.fresh.new_screen.Goals as goal

pub invariant_of-blank : goal.invariant_of-blank
invariant_of-blank c = search (rules, new_width)

pub write_front-requires : goal.write_front-requires
write_front-requires c = search (rules, new_fits)

pub returns : goal.returns
returns c = search (rules, new_end)
