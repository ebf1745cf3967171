-- `line::reading::read_stripped` meets its contract.
use Rattle.std.proofs.Common.{rules}
use Rattle.line.proofs.ReadingLaws.{reading_end}
use Rattle.line.proofs.reading.read_stripped.Goals as goal

pub returns : goal.returns
returns c = search (rules, reading_end)
