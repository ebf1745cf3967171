-- The call that `calls::typing::backspace` is.
use Rattle.editor.specs.Call.{Backspace}
use Rattle.calls.proofs.typing.backspace.Given as goal

abbrev pub ghost-changed : goal.ghost-changed
ghost-changed a = Backspace
