-- `mirror::arrive::hear` meets its contract.
use Rattle.std.proofs.Common.{rules}
use Rattle.mirror.proofs.ArriveLeft.{heard_done}
use Rattle.mirror.proofs.arrive.hear.Goals as goal

pub returns : goal.returns
returns c = search (rules, heard_done)
