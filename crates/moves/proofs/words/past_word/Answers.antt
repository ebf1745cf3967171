-- `moves::words::past_word` meets its contract.
use Rattle.std.proofs.Common.{rules}
use Rattle.std.proofs.iter.runs.Sources.{ranges}
use Rattle.moves.proofs.WordsLaws.{past_word_found}
use Rattle.moves.proofs.words.past_word.Goals as goal

pub returns : goal.returns
returns c = past_word_found _ _ _ _ (search (rules, ranges)) (search (rules, ranges)) (search (rules, ranges)) (search (rules, ranges))
