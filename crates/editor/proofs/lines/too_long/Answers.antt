-- `editor::lines::too_long` meets its contract.
use Rattle.std.proofs.Common.{rules}
use Rattle.editor.proofs.LinesLaws.{not_last, long_tested}
use Rattle.editor.proofs.lines.too_long.Goals as goal

pub returns-then-r-span : goal.returns-then-r-span
returns-then-r-span c = search (rules, not_last)

pub returns : goal.returns
returns c = search (rules, long_tested)
