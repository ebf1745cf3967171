-- `line::splice::splice_logical` meets its contract.
use Rattle.std.proofs.Common.{rules}
use Rattle.line.proofs.SpliceLaws.{line_laid, text_spliced}
use Rattle.line.proofs.splice.splice_logical.Goals as goal

pub head_in-requires : goal.head_in-requires
head_in-requires c = (search (rules, line_laid), search rules)

pub returns : goal.returns
returns c = search (rules, text_spliced)
