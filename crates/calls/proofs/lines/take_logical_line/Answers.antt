-- `calls::lines::take_logical_line` meets its contract.
use Rattle.std.proofs.Common.{rules}
use Rattle.calls.proofs.LinesLaws.{take_refused, take_long, take_fits, take_done}
use Rattle.calls.proofs.lines.take_logical_line.Goals as goal

pub returns-in_err-accepted : goal.returns-in_err-accepted
returns-in_err-accepted c = search (rules, take_refused)

pub finish-requires : goal.finish-requires
finish-requires c = (take_fits _ _ c.in_ok-accepted.ensures.refusal _ _ _ _ (search rules) c.of-old.ensures c.take_logical_line-h.ensures, search rules)

pub put_reading-requires : goal.put_reading-requires
put_reading-requires c = search (rules, take_long)

pub returns : goal.returns
returns c =
    take_done _ _ c.in_ok-accepted.ensures.refusal _ _ _ _ (search rules) c.of-old.ensures c.take_logical_line-h.ensures
    _ _ _ _ c.line_text-text.ensures c.finish.ensures c.put_reading.ensures
