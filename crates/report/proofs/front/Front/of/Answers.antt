-- `report::front::Front::of` meets its contract.
use Rattle.std.proofs.Common.{rules}
use Rattle.report.proofs.FrontLaws.{front_made}
use Rattle.report.proofs.front.Front.of.Goals as goal

pub returns : goal.returns
returns c = search (rules, front_made)
