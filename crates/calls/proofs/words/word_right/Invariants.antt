-- The call that `calls::words::word_right` is.
use Rattle.editor.specs.Call.{WordRight}
use Rattle.calls.proofs.words.word_right.Given as goal

abbrev pub ghost-moved : goal.ghost-moved
ghost-moved a = WordRight
