-- The loops of `editor::print::print_piece`.
use lib.ListN.{length}
use mir.Syntax.{w64}
use mir.Val.{Fits}
use Rattle.editor.proofs.PrintLaws.{Printing}
use Rattle.grid.specs.Record.{screen_with}
use Rattle.editor.proofs.print.print_piece.Given as goal

abbrev pub invariant-loop-b : goal.invariant-loop-b
invariant-loop-b l = Printing l.before (screen_with l.initial.pen.head l.initial.rec) l.bytes l.initial.rec l.rec l.b-index l.cr l.pen.head l.scrolls × Fits w64 (length l.bytes)
