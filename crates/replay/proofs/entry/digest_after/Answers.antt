-- The digest stays below its modulus.
use Rattle.std.proofs.Common.{rules, ◌<◌}
use Rattle.std.proofs.lemmas.Fn.{fold_over, fronts, slice_gives}
use Rattle.replay.specs.declared.entry.TheConstants.{MODULUS}
use Rattle.replay.proofs.entry.digest_after.Goals as goal

pub returns : goal.returns
returns c =
    fold_over fronts (λ y. y.now) _ (λ _ d. d < MODULUS) _ (λ ys d x r q h k. search rules) c.iter.result _ _ _ (slice_gives c.iter.result)
    c.requires c.fold.ensures.ran
