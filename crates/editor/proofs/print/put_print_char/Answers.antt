-- `editor::print::put_print_char` meets its contract.
use Rattle.std.proofs.Common.{rules}
use Rattle.editor.proofs.PrintLaws.{put_inside, put_last}
use Rattle.editor.proofs.print.put_print_char.Goals as goal

pub returns-then-col-h : goal.returns-then-col-h
returns-then-col-h c = search (rules, put_inside)

pub returns : goal.returns
returns c = search (rules, put_last)
