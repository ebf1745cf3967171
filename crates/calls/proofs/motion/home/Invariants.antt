-- The call that `calls::motion::home` is.
use Rattle.editor.specs.Call.{Home}
use Rattle.calls.proofs.motion.home.Given as goal

abbrev pub ghost-moved : goal.ghost-moved
ghost-moved a = Home
