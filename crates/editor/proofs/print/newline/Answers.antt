-- `editor::print::newline` meets its contract.
use Rattle.std.proofs.Common.{rules}
use Rattle.editor.proofs.PrintLaws.{newline_next, row_above, newline_back}
use Rattle.editor.proofs.print.newline.Goals as goal

pub returns-then-not-wrapped : goal.returns-then-not-wrapped
returns-then-not-wrapped c = search (rules, newline_next)

pub overflow_sub-pen : goal.overflow_sub-pen
overflow_sub-pen c = search (rules, row_above)

pub returns : goal.returns
returns c = search (rules, newline_back)
