-- `moves::words::back_to_word` meets its contract.
use Rattle.std.proofs.Common.{rules}
use Rattle.std.proofs.iter.runs.Sources.{ranges}
use Rattle.moves.proofs.WordsLaws.{back_found}
use Rattle.moves.proofs.words.back_to_word.Goals as goal

pub returns : goal.returns
returns c = back_found _ _ _ (search (rules, ranges)) (search (rules, ranges)) (search (rules, ranges))
