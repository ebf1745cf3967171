-- `moves::text::last_row` meets its contract.
use Rattle.std.proofs.Common.{rules}
use Rattle.std.proofs.iter.runs.Sources.{ranges}
use Rattle.moves.proofs.TextLaws.{last_found}
use Rattle.moves.proofs.text.last_row.Goals as goal

pub returns : goal.returns
returns c = last_found _ _ _ _ (search (rules, ranges)) (search (rules, ranges)) (search (rules, ranges))
