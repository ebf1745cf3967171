-- `editor::lines::on_blank_end` meets its contract. What `&&` has left untried is false.
use borrow.Author.Tests.{le-ltb}
use Rattle.std.proofs.Common.{rules}
use Rattle.editor.proofs.LinesLaws.{span_short, not_blank, blank_there}
use Rattle.editor.proofs.lines.on_blank_end.Goals as goal
use Rattle.editor.proofs.lines.on_blank_end.Goals.{then-span-end, else-span-end}

pub returns-then-row_is_blank : goal.returns-then-row_is_blank
returns-then-row_is_blank c = elim c.if-span-end.branch [ then-span-end w ↦ search (rules, blank_there) | else-span-end w ↦ (cc (le-ltb _ _ w.if-span-end.false)) ]

pub returns-else-row_is_blank : goal.returns-else-row_is_blank
returns-else-row_is_blank c = elim c.if-span-end.branch [ then-span-end w ↦ search (rules, not_blank) | else-span-end w ↦ search (rules, span_short) ]
