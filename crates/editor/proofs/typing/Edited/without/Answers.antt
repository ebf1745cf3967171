-- `editor::typing::Edited::without` meets its contract.
use Rattle.std.proofs.Common.{rules}
use Rattle.editor.proofs.TypingLaws.{without_one}
use Rattle.editor.proofs.typing.Edited.without.Goals as goal

pub returns : goal.returns
returns c = search (rules, without_one)
