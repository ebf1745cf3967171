-- The loops of `moves::text::put_lines`.
use Prim.Native.Nat.{◌*◌, ◌≤◌}
use lib.ListN.{take}
use Rattle.moves.specs.Shown.{lines, Puts}
use Rattle.moves.proofs.text.put_lines.Given as goal

abbrev pub invariant-loop-r : goal.invariant-loop-r
invariant-loop-r l = (l.r ≤ l.n) × Puts (lines l.s.head.width (take l.r l.s.rows)) (81 * l.r) l.initial.out l.out l.at
