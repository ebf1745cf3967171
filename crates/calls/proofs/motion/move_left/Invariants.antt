-- The call that `calls::motion::move_left` is.
use Rattle.editor.specs.Call.{MoveLeft}
use Rattle.calls.proofs.motion.move_left.Given as goal

abbrev pub ghost-moved : goal.ghost-moved
ghost-moved a = MoveLeft
