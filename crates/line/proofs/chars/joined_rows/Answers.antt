-- `line::chars::joined_rows` meets its contract.
use Rattle.std.proofs.Common.{rules}
use Rattle.line.proofs.CharsLaws.{chars_turn, chars_end}
use Rattle.line.proofs.chars.joined_rows.Goals as goal

pub loop-r-preserved : goal.loop-r-preserved
loop-r-preserved c =
    (search rules, chars_turn _ _ _ c.s.invariant c.s.view_is _ _ _ _ _ _ _ _ _ (search rules) (search rules) (search rules) (search rules) (search rules) c.of.ensures (search rules) c.copy_in.ensures)

pub returns : goal.returns
returns c = search (rules, chars_end)
