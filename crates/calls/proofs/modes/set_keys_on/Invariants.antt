-- The call that `calls::modes::set_keys_on` is.
use Rattle.editor.specs.Call.{SetKeysOn}
use Rattle.calls.proofs.modes.set_keys_on.Given as goal

abbrev pub ghost-moved : goal.ghost-moved
ghost-moved a = SetKeysOn a.work.0.now
