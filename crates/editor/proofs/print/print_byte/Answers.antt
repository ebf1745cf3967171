-- `editor::print::print_byte` meets its contract.
use Rattle.std.proofs.Common.{rules}
use Rattle.editor.proofs.PrintLaws.{line_ended, char_put, byte_ignored}
use Rattle.editor.proofs.print.print_byte.Goals as goal

pub returns-in-Newline : goal.returns-in-Newline
returns-in-Newline c = search (rules, line_ended)

pub returns-in-Char : goal.returns-in-Char
returns-in-Char c = search (rules, char_put)

pub returns-in-Nothing : goal.returns-in-Nothing
returns-in-Nothing c = search (rules, byte_ignored)
