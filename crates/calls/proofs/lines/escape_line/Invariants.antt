-- The call that `calls::lines::escape_line` is.
use Rattle.editor.specs.Call.{EscapeLine}
use Rattle.calls.proofs.lines.escape_line.Given as goal

abbrev pub ghost-changed : goal.ghost-changed
ghost-changed a = EscapeLine
