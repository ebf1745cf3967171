-- The call that `calls::modes::clear` is.
use Rattle.editor.specs.Call.{Clear}
use Rattle.calls.proofs.modes.clear.Given as goal

abbrev pub ghost-changed : goal.ghost-changed
ghost-changed a = Clear
