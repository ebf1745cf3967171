-- The loop of `editor::tab::type_spaces`.
use Rattle.editor.proofs.TabLaws.{Spaced}
use Rattle.editor.proofs.tab.type_spaces.Given as goal

abbrev pub invariant-loop : goal.invariant-loop
invariant-loop l = Spaced l.old l.initial.rec l.n l.rec l.h l.counter
