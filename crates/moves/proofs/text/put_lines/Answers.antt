-- `moves::text::put_lines` meets its contract.
use Rattle.std.proofs.Common.{rules}
use Rattle.moves.proofs.TextLaws.{lines_start, lines_turn}
use Rattle.moves.proofs.text.put_lines.Goals as goal

pub loop-r-init : goal.loop-r-init
loop-r-init c = search (rules, lines_start)

pub loop-r-preserved : goal.loop-r-preserved
loop-r-preserved c =
    (search rules, lines_turn _ _ _ c.s.view_is c.s.invariant _ _ (search rules) _ _ _ _ _ (search rules) (search rules) (search rules) c.put_line-at.ensures)
