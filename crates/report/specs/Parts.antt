-- What the code computes on the way: the front of a report.
-- Assumes nothing.
use Rattle.std.specs.Prelude.{ℕ, ◌<◌, ◌≡◌, List}
use Rattle.grid.specs.Layout.{MASKS}
use Rattle.grid.specs.Facts.{HeadFits}
use Rattle.grid.specs.Record.{read_state}
use Rattle.report.specs.declared.kind.Kind.{Kind}
use Rattle.report.specs.declared.front.Front.{Front}
use Rattle.report.specs.Report.{front_of}

-- the front of a report of the valid record l
pub record Fronts (kind : Kind) (l : List ℕ) (f : Front) : Type 0 where
  pub is : f ≡ front_of kind (read_state l)
  pub small : f.mask < MASKS
  pub fits : HeadFits f.head
