-- `editor::print::cr_left` meets its contract.
use Rattle.std.proofs.Common.{rules}
use Rattle.editor.proofs.CrLaws.{byte_decides, bit_stays}
use Rattle.editor.proofs.print.cr_left.Goals as goal

pub returns-in-Some : goal.returns-in-Some
returns-in-Some c = let is = c.in-Some.ensures.value in search (rules, byte_decides, is)

pub returns-in-None : goal.returns-in-None
returns-in-None c = let is = c.in-None.ensures.value in search (rules, bit_stays, is)
