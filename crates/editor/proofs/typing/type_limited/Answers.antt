-- `editor::typing::type_limited` meets its contract.
use Rattle.std.proofs.Common.{rules}
use Rattle.editor.proofs.TypingLaws.{limited_ignored, limited_done}
use Rattle.editor.proofs.typing.type_limited.Goals as goal

pub returns-then-not-is_printable : goal.returns-then-not-is_printable
returns-then-not-is_printable c = search (rules, limited_ignored)

pub returns : goal.returns
returns c = search (rules, limited_done)
