-- `moves::words::word_start` meets its contract.
use Rattle.std.proofs.Common.{rules}
use Rattle.std.proofs.iter.runs.Sources.{ranges}
use Rattle.moves.proofs.WordsLaws.{start_found}
use Rattle.moves.proofs.words.word_start.Goals as goal

pub returns : goal.returns
returns c = start_found _ _ _ (search (rules, ranges)) (search (rules, ranges)) (search (rules, ranges))
