-- `editor::typing::delete_char` meets its contract.
use Rattle.std.proofs.Common.{rules}
use Rattle.editor.proofs.TypingLaws.{deleted}
use Rattle.editor.proofs.typing.delete_char.Goals as goal

pub returns : goal.returns
returns c = search (rules, deleted)
