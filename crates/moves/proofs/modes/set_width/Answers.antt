-- `moves::modes::set_width` meets its contract.
use Rattle.moves.proofs.ModesLaws.{width_set}
use Rattle.std.proofs.Common.{rules}
use Rattle.moves.proofs.modes.set_width.Goals as goal

pub returns : goal.returns
returns c = search (rules, width_set)
