-- The loop of `line::plan::write_rows`.
use Rattle.line.specs.Splice.{line_rows}
use Rattle.line.proofs.PlanLaws.{rows_to}
use Rattle.grid.specs.Screen.{blank_row}
use Rattle.grid.specs.Record.{Becomes}
use Rattle.line.proofs.plan.write_rows.Given as goal

abbrev pub invariant-loop-r : goal.invariant-loop-r
invariant-loop-r l = Becomes l.initial.rec l.rec (rows_to l.old.rows (line_rows l.p.lines l.old.head.width l.old.head.attr l.text) (blank_row l.old.head.width l.old.head.attr) l.p l.r)
