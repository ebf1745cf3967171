-- The call that `calls::typing::type_limited` is.
use Rattle.editor.specs.Call.{TypeLimited}
use Rattle.calls.proofs.typing.type_limited.Given as goal

abbrev pub ghost-changed : goal.ghost-changed
ghost-changed a = TypeLimited a.work.0.now a.work.1.now
