-- The loops of `keys::strip::slot`.
use mathlib.Core.Path.{◌≡◌}
use mathlib.Core.List.{map}
use lib.ListN.{take}
use Rattle.keys.specs.Keys.{display}
use Rattle.octets.specs.Part.{write}
use Rattle.keys.proofs.strip.slot.Given as goal

abbrev pub invariant-loop-i : goal.invariant-loop-i
invariant-loop-i l = l.slot ≡ write l.initial.slot 1 (map display (take l.i l.shown))
