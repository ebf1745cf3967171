-- `calls::print::print_waiting` meets its contract.
use Rattle.std.proofs.Common.{rules}
use Rattle.calls.proofs.WaitingLaws.{waiting_refused, waited_fits, taken_fits, scrolled_fits, answer_fits, waited_done}
use Rattle.calls.proofs.print.print_waiting.Goals as goal

pub returns-in_err-accepted : goal.returns-in_err-accepted
returns-in_err-accepted c = search (rules, waiting_refused)

pub finish_print-requires : goal.finish_print-requires
finish_print-requires c =
    (waited_fits _ _ _ _ c.can_wait-own.ensures c.in_ok-accepted.ensures.refusal _ _ _ _ (search rules) c.of.ensures c.print_waiting-w.ensures, search rules)

pub overflow_cast-result : goal.overflow_cast-result
overflow_cast-result c =
    taken_fits _ _ _ _ c.can_wait-own.ensures c.in_ok-accepted.ensures.refusal _ _ _ _ (search rules) c.of.ensures c.print_waiting-w.ensures

pub overflow_mul-result : goal.overflow_mul-result
overflow_mul-result c =
    scrolled_fits _ _ _ _ c.can_wait-own.ensures c.in_ok-accepted.ensures.refusal _ _ _ _ (search rules) c.of.ensures c.print_waiting-w.ensures

pub overflow_add-result : goal.overflow_add-result
overflow_add-result c =
    answer_fits _ _ _ _ c.can_wait-own.ensures c.in_ok-accepted.ensures.refusal _ _ _ _ (search rules) c.of.ensures c.print_waiting-w.ensures

pub returns : goal.returns
returns c =
    waited_done _ _ _ _ c.can_wait-own.ensures c.in_ok-accepted.ensures.refusal _ _ _ _ (search rules) c.of.ensures c.print_waiting-w.ensures
    _ c.finish_print.ensures
