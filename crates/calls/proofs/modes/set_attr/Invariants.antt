-- The call that `calls::modes::set_attr` is.
use Rattle.editor.specs.Call.{SetAttr}
use Rattle.calls.proofs.modes.set_attr.Given as goal

abbrev pub ghost-moved : goal.ghost-moved
ghost-moved a = SetAttr a.work.0.now
