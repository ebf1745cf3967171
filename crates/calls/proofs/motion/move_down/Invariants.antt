-- The call that `calls::motion::move_down` is.
use Rattle.editor.specs.Call.{MoveDown}
use Rattle.calls.proofs.motion.move_down.Given as goal

abbrev pub ghost-moved : goal.ghost-moved
ghost-moved a = MoveDown
