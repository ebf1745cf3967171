-- `editor::lines::take_logical_line` meets its contract.
use Rattle.std.proofs.Common.{rules}
use Rattle.editor.proofs.LinesLaws.{end_low, take_cleared, take_next}
use Rattle.editor.proofs.lines.take_logical_line.Goals as goal

pub overflow_sub-end : goal.overflow_sub-end
overflow_sub-end c = search (rules, end_low)

pub returns-then-on_blank_end : goal.returns-then-on_blank_end
returns-then-on_blank_end c = search (rules, take_cleared)

pub returns : goal.returns
returns c = search (rules, take_next)
