-- The call that `calls::typing::delete_char` is.
use Rattle.editor.specs.Call.{DeleteChar}
use Rattle.calls.proofs.typing.delete_char.Given as goal

abbrev pub ghost-changed : goal.ghost-changed
ghost-changed a = DeleteChar
