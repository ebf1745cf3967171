-- `line::plan::write_rows` meets its contract.
use Rattle.std.proofs.Common.{rules}
use Rattle.line.proofs.PlanLaws.{rows_turn, rows_end}
use Rattle.line.proofs.plan.write_rows.Goals as goal

pub loop-r-preserved : goal.loop-r-preserved
loop-r-preserved c = search (rules, rows_turn)

pub returns : goal.returns
returns c = search (rules, rows_end)
