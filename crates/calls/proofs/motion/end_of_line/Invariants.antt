-- The call that `calls::motion::end_of_line` is.
use Rattle.editor.specs.Call.{EndOfLine}
use Rattle.calls.proofs.motion.end_of_line.Given as goal

abbrev pub ghost-moved : goal.ghost-moved
ghost-moved a = EndOfLine
