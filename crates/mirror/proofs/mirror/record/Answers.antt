-- `mirror::mirror::record` meets its contract.
use Rattle.std.proofs.Common.{rules}
use Rattle.mirror.proofs.mirror.record.Goals as goal

pub returns : goal.returns
returns c = search (rules)
