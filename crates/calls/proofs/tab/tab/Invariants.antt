-- The call that `calls::tab::tab` is.
use Rattle.editor.specs.Call.{Tab}
use Rattle.calls.proofs.tab.tab.Given as goal

abbrev pub ghost-changed : goal.ghost-changed
ghost-changed a = Tab
