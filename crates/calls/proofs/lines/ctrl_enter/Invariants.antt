-- The call that `calls::lines::ctrl_enter` is.
use Rattle.editor.specs.Call.{CtrlEnter}
use Rattle.calls.proofs.lines.ctrl_enter.Given as goal

abbrev pub ghost-changed : goal.ghost-changed
ghost-changed a = CtrlEnter
