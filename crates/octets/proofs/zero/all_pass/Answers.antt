-- `octets::zero::all_pass` meets its contract.
use Rattle.std.proofs.Common.{rules, ◌&&◌}
use Rattle.std.proofs.lemmas.Iterator.{YieldsList-from_slice}
use Rattle.std.proofs.lemmas.Iterator.Consumers.{fold_from_yields_List}
use Rattle.octets.proofs.ZeroLaws.{every_passes}
use Rattle.octets.proofs.zero.all_pass.Goals as goal

pub returns : goal.returns
returns g c =
    λ p is.
    every_passes p _ _
    (fold_from_yields_List _ (λ all x. all && p x) _ _ c.fold.ensures.ran (YieldsList-from_slice _ c.iter.ensures.rest) (λ a x b q k. search (rules, is)))
