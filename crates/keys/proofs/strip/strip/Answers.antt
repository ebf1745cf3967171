-- `keys::strip::strip` meets its contract.
use Rattle.std.proofs.Common.{rules}
use Rattle.keys.proofs.StripLaws.{strip_turn}
use Rattle.keys.proofs.strip.strip.Goals as goal

pub loop-i-preserved : goal.loop-i-preserved
loop-i-preserved c = search (rules, strip_turn)
