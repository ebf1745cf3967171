-- The call that `calls::typing::erase_to_end` is.
use Rattle.editor.specs.Call.{EraseToEnd}
use Rattle.calls.proofs.typing.erase_to_end.Given as goal

abbrev pub ghost-changed : goal.ghost-changed
ghost-changed a = EraseToEnd
