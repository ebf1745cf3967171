-- `report::report::report` meets its contract.
use Rattle.report.proofs.ReportLaws.{report_done}
use Rattle.report.proofs.report.report.Goals as goal

pub returns : goal.returns
returns c =
    let none = c.in_ok-rec.ensures.refusal in
    let same = c.in_ok-rec.ensures.same in
    report_done _ _ _ none _ same _ c.of-f.ensures _ _ _ _ c.rows_at.ensures c.write.ensures c.carry_rows.ensures c.report_length.ensures
