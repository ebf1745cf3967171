-- `calls::change::changed` meets its contract. Of c.requires, .1.0 is `plain`, .1.1.0 `may` and .1.1.1 `does`.
use Rattle.std.proofs.Common.{rules}
use Rattle.calls.proofs.RefusalLaws.{own_none}
use Rattle.calls.proofs.Changing.{call_refused, head_kept, changed_done}
use Rattle.calls.proofs.change.changed.Goals as goal

pub returns-in_err-accepted : goal.returns-in_err-accepted
returns-in_err-accepted g c = search (rules, call_refused)

pub work-h-requires : goal.work-h-requires
work-h-requires g c = c.requires.1.1.0 _ _ (own_none _ _ _ c.in_ok-accepted.ensures.refusal) (search rules)

pub finish-requires : goal.finish-requires
finish-requires g c =
    let head = (c.requires.1.1.1 _ _ _ _ c.work-h.ensures).head in
    (head_kept _ _ _ _ c.requires.1.0.tested c.in_ok-accepted.ensures.refusal _ _ _ (search rules) c.of.ensures head, search rules)

pub returns : goal.returns
returns g c =
    changed_done _ _ _ _ c.requires.1.0 c.in_ok-accepted.ensures.refusal _ _ _ (search rules) c.of.ensures
    _ _ (c.requires.1.1.1 _ _ _ _ c.work-h.ensures) c.finish.ensures
