-- `mirror::arrive::take_rows` meets its contract.
use Rattle.std.proofs.Common.{rules}
use Rattle.mirror.proofs.ArriveRows.{take_start, next_known, take_skip, take_put, take_end}
use Rattle.mirror.proofs.arrive.take_rows.Goals as goal
use Rattle.mirror.proofs.arrive.take_rows.Goals.{then-has_row, else-has_row}

pub loop-r-init : goal.loop-r-init
loop-r-init c = search (rules, take_start)

pub loop-r-preserved : goal.loop-r-preserved
loop-r-preserved c =
    elim c.if-has_row.branch [
      | then-has_row w ↦ rw (w.rec-is, w.n-is) (search (rules, take_put))
      | else-has_row w ↦ rw (w.rec-is, w.n-is) (search (rules, take_skip))
    ]

pub bounds-carried-n : goal.bounds-carried-n
bounds-carried-n c = search (rules, next_known)

pub returns : goal.returns
returns c = search (rules, take_end)
