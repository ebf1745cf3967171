-- `moves::text::put_line` meets its contract.
use Rattle.std.proofs.Common.{rules}
use Rattle.moves.proofs.TextLaws.{line_put}
use Rattle.moves.proofs.text.put_line.Goals as goal

pub returns : goal.returns
returns c = search (rules, line_put)
