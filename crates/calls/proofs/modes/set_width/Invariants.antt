-- The call that `calls::modes::set_width` is.
use Rattle.editor.specs.Call.{SetWidth}
use Rattle.calls.proofs.modes.set_width.Given as goal

abbrev pub ghost-changed : goal.ghost-changed
ghost-changed a = SetWidth a.work.0.now
