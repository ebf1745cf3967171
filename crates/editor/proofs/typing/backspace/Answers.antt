-- `editor::typing::backspace` meets its contract.
use Rattle.std.proofs.Common.{rules}
use Rattle.editor.proofs.TypingLaws.{index_low, backspaced}
use Rattle.editor.proofs.typing.backspace.Goals as goal

pub backspace_index-at-requires : goal.backspace_index-at-requires
backspace_index-at-requires c = λ right. search (rules, index_low)

pub returns : goal.returns
returns c = search (rules, backspaced)
