-- `editor::print::wrap` meets its contract.
use Rattle.std.proofs.Common.{rules}
use Rattle.editor.proofs.PrintLaws.{wrap_end}
use Rattle.editor.proofs.print.wrap.Goals as goal

pub returns : goal.returns
returns c = search (rules, wrap_end)
