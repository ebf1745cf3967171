-- `line::span::span_end` meets its contract.
use Rattle.std.proofs.Common.{rules, tests, refl, ◌-◌}
use Rattle.std.proofs.lemmas.Iterator.{YieldsList-from_range}
use Rattle.std.proofs.lemmas.Iterator.Search.{find_from_yields_List}
use Rattle.line.proofs.SpanLaws.{end_at, ends_line}
use Rattle.line.proofs.span.span_end.Goals as goal

pub returns : goal.returns
returns c =
    let rows = YieldsList-from_range c.args.row (c.args.e - 1) _ refl refl in
    end_at _ _ _ _ _ c.requires.0 c.requires.1 c.unwrap_or.ensures
    (find_from_yields_List (ends_line c.args.rec.now) _ _ _ c.find.ensures.ran rows (λ x b q k. search (rules, tests)))
