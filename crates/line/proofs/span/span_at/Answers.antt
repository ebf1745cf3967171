-- `line::span::span_at` meets its contract.
use Rattle.std.proofs.Common.{rules}
use Rattle.line.proofs.SpanLaws.{span_made}
use Rattle.line.proofs.span.span_at.Goals as goal

pub returns : goal.returns
returns c = search (rules, span_made)
