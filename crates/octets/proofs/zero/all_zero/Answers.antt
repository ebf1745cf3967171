-- `octets::zero::all_zero` meets its contract.
use Rattle.std.proofs.Common.{rules, tests}
use Rattle.octets.specs.Test.{zerob}
use Rattle.octets.proofs.zero.all_zero.Goals as goal

pub returns : goal.returns
unfolding zerob
returns c = c.all_pass.ensures zerob (search (rules, tests))
