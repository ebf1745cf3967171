-- The loops of `editor::waiting::print_waiting`.
use mathlib.Core.Bool.{false}
use Prim.Native.Nat.{◌-◌, ◌≤◌}
use lib.ListN.{length}
use Rattle.editor.proofs.PrintLaws.{Printing}
use Rattle.editor.proofs.waiting.print_waiting.Given as goal

abbrev pub invariant-loop-i : goal.invariant-loop-i
invariant-loop-i l = Printing false l.old l.bytes l.initial.rec l.rec l.i l.cr l.pen.head l.scrolls × (l.scrolls ≤ l.rows)

abbrev pub decreases-loop-i : goal.decreases-loop-i
decreases-loop-i l = length l.bytes - l.i
