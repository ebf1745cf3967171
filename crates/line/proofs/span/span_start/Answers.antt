-- `line::span::span_start` meets its contract.
use Rattle.std.proofs.Common.{rules, tests}
use Rattle.std.proofs.lemmas.Iterator.Search.{find_from_yields_List}
use Rattle.line.proofs.SpanLaws.{start_at, ends_line, gives_down}
use Rattle.line.proofs.span.span_start.Goals as goal

pub returns : goal.returns
returns c =
    start_at _ _ _ _ c.requires (λ e. search rules) (λ k e. search rules)
    (find_from_yields_List (ends_line c.args.rec.now) _ _ c.find.result c.find.ensures.ran (gives_down _ _ c.rev.ensures.source) (λ x b q k. search (rules, tests)))
