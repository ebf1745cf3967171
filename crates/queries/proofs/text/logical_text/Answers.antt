-- `queries::text::logical_text` meets its contract.
use Rattle.std.proofs.Common.{rules}
use Rattle.queries.proofs.TextLaws.{text_refused, line_written, output_long}
use Rattle.editor.specs.Outcome.{room}
use Rattle.queries.proofs.text.logical_text.Goals as goal

pub returns-in_err-record : goal.returns-in_err-record
unfolding room
returns-in_err-record c = search (rules, text_refused)

pub put_reading-requires : goal.put_reading-requires
put_reading-requires c = search (rules, output_long)

pub returns : goal.returns
returns c =
    line_written _ _ _ _ c.in_ok-record.ensures.same c.of-s.ensures _ _ _ c.in_ok-record.ensures.refusal c.line_text.ensures c.put_reading.ensures
