-- `keys::strip::slot` meets its contract.
use Rattle.std.proofs.Common.{rules}
use Rattle.keys.proofs.StripLaws.{slot_end}
use Rattle.keys.proofs.strip.slot.Goals as goal

pub returns : goal.returns
returns c = search (rules, slot_end)
