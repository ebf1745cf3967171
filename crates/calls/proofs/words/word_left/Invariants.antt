-- The call that `calls::words::word_left` is.
use Rattle.editor.specs.Call.{WordLeft}
use Rattle.calls.proofs.words.word_left.Given as goal

abbrev pub ghost-moved : goal.ghost-moved
ghost-moved a = WordLeft
