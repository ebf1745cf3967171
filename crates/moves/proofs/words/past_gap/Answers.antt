-- `moves::words::past_gap` meets its contract.
use Rattle.std.proofs.Common.{rules}
use Rattle.std.proofs.iter.runs.Sources.{ranges}
use Rattle.moves.proofs.WordsLaws.{past_gap_found}
use Rattle.moves.proofs.words.past_gap.Goals as goal

pub returns : goal.returns
returns c = past_gap_found _ _ _ _ (search (rules, ranges)) (search (rules, ranges)) (search (rules, ranges)) (search (rules, ranges))
