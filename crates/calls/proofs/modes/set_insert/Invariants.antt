-- The call that `calls::modes::set_insert` is.
use Rattle.editor.specs.Call.{SetInsert}
use Rattle.calls.proofs.modes.set_insert.Given as goal

abbrev pub ghost-moved : goal.ghost-moved
ghost-moved a = SetInsert a.work.0.now
