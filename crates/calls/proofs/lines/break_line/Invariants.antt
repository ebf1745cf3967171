-- The call that `calls::lines::break_line` is.
use Rattle.editor.specs.Call.{BreakLine}
use Rattle.calls.proofs.lines.break_line.Given as goal

abbrev pub ghost-changed : goal.ghost-changed
ghost-changed a = BreakLine
