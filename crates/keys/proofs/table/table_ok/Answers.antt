-- `keys::table::table_ok` meets its contract.
use Rattle.std.proofs.Common.{rules, refl, ◌∙◌}
use Rattle.std.proofs.lemmas.Iterator.{YieldsList-from_range}
use Rattle.std.proofs.lemmas.Iterator.Search.{all_from_yields_List}
use Rattle.keys.specs.Keys.{valid_key}
use Rattle.keys.proofs.TableLaws.{ten_tested}
use Rattle.keys.proofs.table.table_ok.Goals as goal

pub returns : goal.returns
returns c =
    all_from_yields_List (valid_key c.args.tab.now) _ _ _ c.all.ensures.ran (YieldsList-from_range 0 10 10 refl refl) (λ x b q k. search rules)
    ∙ ten_tested _ (search rules)
