-- `grid::valid::rows_ok` meets its contract.
use Rattle.std.proofs.Common.{rules, refl, ◌∙◌}
use Rattle.std.proofs.lemmas.Iterator.{YieldsList-from_range}
use Rattle.std.proofs.lemmas.Iterator.Search.{all_from_yields_List}
use Rattle.grid.specs.Screen.{valid_row}
use Rattle.grid.specs.Record.{row_of}
use Rattle.grid.proofs.ValidLaws.{rows_tested}
use Rattle.grid.proofs.valid.rows_ok.Goals as goal

pub returns : goal.returns
returns g c =
    all_from_yields_List (λ r. valid_row g.row.W (row_of c.args.rec.now r)) _ _ _ c.all.ensures.ran (YieldsList-from_range 0 25 25 refl refl)
    (λ x b q k. search rules)
    ∙ rows_tested _ _
