-- `report::front::Front::rows` meets its contract.
use Rattle.std.proofs.Common.{rules}
use Rattle.report.proofs.front.Front.rows.Goals as goal

pub returns : goal.returns
returns c = search (rules)
