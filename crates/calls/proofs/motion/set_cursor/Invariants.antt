-- The call that `calls::motion::set_cursor` is.
use Rattle.editor.specs.Call.{SetCursor}
use Rattle.calls.proofs.motion.set_cursor.Given as goal

abbrev pub ghost-moved : goal.ghost-moved
ghost-moved a = SetCursor a.work.0.now a.work.1.now
