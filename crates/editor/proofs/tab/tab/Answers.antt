-- `editor::tab::tab` meets its contract.
use Rattle.std.proofs.Common.{rules}
use Rattle.editor.proofs.TabLaws.{tab_done, tab_typed}
use Rattle.editor.proofs.tab.tab.Goals as goal

pub returns-then-h-eq1 : goal.returns-then-h-eq1
returns-then-h-eq1 c = search (rules, tab_typed)

pub returns : goal.returns
returns c = search (rules, tab_done)
