-- `report::report::carry_rows` meets its contract.
use Rattle.std.proofs.Common.{rules}
use Rattle.report.proofs.ReportLaws.{carry_start, carry_skip, carry_put, carry_end}
use Rattle.report.proofs.report.carry_rows.Goals as goal
use Rattle.report.proofs.report.carry_rows.Goals.{then-has_row, else-has_row}

pub loop-r-init : goal.loop-r-init
loop-r-init c = search (rules, carry_start)

pub loop-r-preserved : goal.loop-r-preserved
loop-r-preserved c = elim c.if-has_row.branch [ then-has_row w ↦ rw (w.out-is, w.at-is) (search (rules, carry_put c.loop-r.at c.loop-r.out)) | else-has_row w ↦ rw (w.out-is, w.at-is) (search (rules, carry_skip)) ]

pub returns : goal.returns
returns c = search (rules, carry_end)
