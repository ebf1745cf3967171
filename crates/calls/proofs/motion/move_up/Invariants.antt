-- The call that `calls::motion::move_up` is.
use Rattle.editor.specs.Call.{MoveUp}
use Rattle.calls.proofs.motion.move_up.Given as goal

abbrev pub ghost-moved : goal.ghost-moved
ghost-moved a = MoveUp
