-- `line::plan::move_row` meets its contract.
use Rattle.line.proofs.PlanLaws.{row_moved}
use Rattle.line.proofs.plan.move_row.Goals as goal

pub returns : goal.returns
returns c = row_moved _ _ _ _ _ _ _ _ c.old.view_is c.requires.2 c.of.ensures c.put_row.ensures
