-- The loops of `report::report::carry_rows`.
use Rattle.report.proofs.ReportLaws.{Carried}
use Rattle.report.proofs.report.carry_rows.Given as goal

abbrev pub invariant-loop-r : goal.invariant-loop-r
invariant-loop-r l = Carried l.rec l.mask l.r l.at l.initial.out l.out
