-- `line::content::content_and_cursor` meets its contract.
use Rattle.std.proofs.Common.{rules}
use Rattle.line.proofs.ContentLaws.{content_end}
use Rattle.line.proofs.content.content_and_cursor.Goals as goal

pub returns : goal.returns
returns c = search (rules, content_end)
