-- `calls::print::printed` meets its contract.
use Rattle.std.proofs.Common.{rules}
use Rattle.calls.proofs.Changing.{call_refused, printed_fits, printed_done}
use Rattle.calls.proofs.print.printed.Goals as goal

pub returns-in_err-accepted : goal.returns-in_err-accepted
returns-in_err-accepted c = λ call prints. search (rules, call_refused)

pub finish_print-requires : goal.finish_print-requires
finish_print-requires c = (printed_fits _ _ _ c.in_ok-accepted.ensures.refusal _ _ _ (search rules) c.of.ensures c.print_bytes-h.ensures.head, search rules)

pub returns : goal.returns
returns c = printed_done _ _ _ c.in_ok-accepted.ensures.refusal _ _ _ (search rules) c.of.ensures _ _ c.print_bytes-h.ensures c.finish_print.ensures
