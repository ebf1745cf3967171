-- `grid::touched::changed_rows` meets its contract.
use Rattle.std.proofs.Common.{rules}
use mathlib.Core.Path.{◌∙◌}
use native.Mathlib.Omega.{arith}
use Rattle.grid.proofs.TouchedLaws.{changed_start, row_kept, row_marked, changed_end}
use Rattle.grid.proofs.touched.changed_rows.Goals.{then-not-row_same, else-not-row_same}
use Rattle.grid.proofs.touched.changed_rows.Goals as goal

pub loop-r-init : goal.loop-r-init
loop-r-init c = search (rules, changed_start)

pub loop-r-preserved : goal.loop-r-preserved
loop-r-preserved c =
    elim c.if-not-row_same.branch [
      | then-not-row_same w ↦
          w.mask-is
          ∙ row_marked _ _ _ _ (omega arith) c.loop-r.invariant _ _ _ c.of.ensures c.of-in-loop-r.ensures c.row_same.ensures _ w.if-not-row_same.true w.with_row-mask.ensures
      | else-not-row_same w ↦
          w.mask-is ∙ row_kept _ _ _ _ (omega arith) c.loop-r.invariant _ _ _ c.of.ensures c.of-in-loop-r.ensures c.row_same.ensures w.if-not-row_same.false
    ]

pub returns : goal.returns
returns c = search (rules, changed_end)
