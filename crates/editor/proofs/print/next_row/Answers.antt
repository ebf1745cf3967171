-- `editor::print::next_row` meets its contract.
use Rattle.std.proofs.Common.{rules}
use Rattle.editor.proofs.PrintLaws.{next_below, next_last}
use Rattle.editor.proofs.print.next_row.Goals as goal

pub returns-then-r-e : goal.returns-then-r-e
returns-then-r-e c = search (rules, next_below)

pub returns : goal.returns
returns c = search (rules, next_last)
