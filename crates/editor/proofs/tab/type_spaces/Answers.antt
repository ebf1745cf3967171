-- `editor::tab::type_spaces` meets its contract.
use Rattle.std.proofs.Common.{rules}
use Rattle.editor.proofs.TabLaws.{spaced_still, spaced_turn, spaced_end}
use Rattle.editor.proofs.tab.type_spaces.Goals as goal

pub returns-then-eq : goal.returns-then-eq
returns-then-eq c = search (rules, spaced_still)

pub loop-preserved : goal.loop-preserved
loop-preserved c = search (rules, spaced_turn)

pub returns : goal.returns
returns c = search (rules, spaced_end)
