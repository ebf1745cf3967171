-- The call that `calls::motion::move_right` is.
use Rattle.editor.specs.Call.{MoveRight}
use Rattle.calls.proofs.motion.move_right.Given as goal

abbrev pub ghost-moved : goal.ghost-moved
ghost-moved a = MoveRight
