-- `mirror::arrive::show` meets its contract.
use Rattle.std.proofs.Common.{rules}
use Rattle.mirror.proofs.ArriveRows.{show_done}
use Rattle.mirror.proofs.arrive.show.Goals as goal

pub returns : goal.returns
returns c = search (rules, show_done)
