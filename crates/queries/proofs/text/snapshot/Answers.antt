-- `queries::text::snapshot` meets its contract.
use Rattle.std.proofs.Common.{rules}
use Rattle.queries.proofs.TextLaws.{text_refused, output_long, snapshot_small, snapshot_written}
use Rattle.editor.specs.Outcome.{room}
use Rattle.queries.proofs.text.snapshot.Goals as goal

pub returns-in_err-record : goal.returns-in_err-record
unfolding room
returns-in_err-record c = search (rules, text_refused)

pub snapshot-requires : goal.snapshot-requires
snapshot-requires c = search (rules, output_long)

pub overflow_cast-result : goal.overflow_cast-result
overflow_cast-result c = snapshot_small _ _ _ _ _ c.in_ok-record.ensures.valid c.of-s.ensures c.snapshot.ensures

pub returns : goal.returns
returns c = snapshot_written _ _ _ _ c.in_ok-record.ensures.same c.of-s.ensures _ _ c.in_ok-record.ensures.refusal c.snapshot.ensures
