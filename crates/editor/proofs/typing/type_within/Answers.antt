-- `editor::typing::type_within` meets its contract.
use Rattle.std.proofs.Common.{rules}
use Rattle.editor.proofs.TypingLaws.{insert_done, insert_full, replace_done, extend_full, extend_done}
use Rattle.editor.proofs.typing.type_within.Goals as goal

pub returns-then-full : goal.returns-then-full
returns-then-full c = search (rules, insert_full)

pub returns-then-h-eq1 : goal.returns-then-h-eq1
returns-then-h-eq1 c = search (rules, insert_done)

pub returns-then-over : goal.returns-then-over
returns-then-over c = search (rules, replace_done)

pub returns-then-full-2 : goal.returns-then-full-2
returns-then-full-2 c = search (rules, extend_full)

pub returns : goal.returns
returns c = search (rules, extend_done)
