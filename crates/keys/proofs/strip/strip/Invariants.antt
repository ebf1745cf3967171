-- The loops of `keys::strip::strip`.
use mathlib.Core.Path.{◌≡◌}
use Rattle.keys.specs.Keys.{slots_from}
use Rattle.octets.specs.Part.{write}
use Rattle.keys.proofs.strip.strip.Given as goal

abbrev pub invariant-loop-i : goal.invariant-loop-i
invariant-loop-i l = l.out ≡ write l.initial.out 0 (slots_from l.macros l.lengths l.offset l.i)
