-- The reading calls: what a query answers that is refused, and one that is not. l is a lent screen record, h its head.
-- Assumes nothing.
use Prim.Native.Nat.{ℕ}
use mathlib.Core.Path.{◌≡◌, sym, ap, ◌∙◌}
use mathlib.Core.Bool.{Bool, true}
use mathlib.Core.List.{List, [], ◌∷◌}
use borrow.Author.Tests.{eq-eqb, ne_eqb}
use Rattle.octets.specs.Answer.{refused, number_of}
use Rattle.octets.specs.declared.answer.Refusal.{Refusal}
use Rattle.octets.specs.Refusals.{first_of, or_else}
use Rattle.std.proofs.lemmas.Bool.{cond-true as pick, cond-false as skip}
use Rattle.octets.proofs.Found.{first_append, else_here, else_past, number_some}
use Rattle.grid.specs.Record.{screen_of}
use Rattle.grid.specs.Refusals.{record_tests}
use Rattle.grid.proofs.RefusalLaws.{record_ordered}
use Rattle.editor.specs.Outcome.{Query, query_tests, inside, value, asking}

module _ (q : Query) (l : List ℕ) where
  -- the record's tests, and then the arguments'
  first_is : first_of (query_tests q l) ≡ or_else (first_of (record_tests true l)) (first_of ((3, inside q (screen_of l)) ∷ []))
  unfolding query_tests
  first_is = first_append 0 (record_tests true l) ((3, inside q (screen_of l)) ∷ []) (record_ordered l true)

  refusal_asked : (e : Refusal) → number_of e ≡ first_of (query_tests q l) → refused (number_of e) ≡ asking q l
  unfolding asking
  refusal_asked e is = ap refused is ∙ sym (skip _ _ _ (ne_eqb _ 0 (λ z. number_some e (is ∙ z))))

  pub ask_refused : (e : Refusal) → number_of e ≡ first_of (record_tests true l) → refused (number_of e) ≡ asking q l
  ask_refused e is =
      refusal_asked e
      (else_here (number_of e) _ (number_some e) ∙ ap (λ (k : ℕ). or_else k (first_of ((3, inside q (screen_of l)) ∷ []))) is ∙ sym first_is)

  module _ (none : 0 ≡ first_of (record_tests true l)) where
    own : (b : Bool) → b ≡ inside q (screen_of l) → first_of ((3, b) ∷ []) ≡ first_of (query_tests q l)
    own b ib = ap (λ (x : Bool). first_of ((3, x) ∷ [])) ib ∙ else_past _ _ (sym none) ∙ sym first_is

    pub ask_outside : (b : Bool) (e : Refusal) → b ≡ inside q (screen_of l) → number_of e ≡ first_of ((3, b) ∷ []) → refused (number_of e) ≡ asking q l
    ask_outside b e ib is = refusal_asked e (is ∙ own b ib)

    pub ask_value : (n : ℕ) → inside q (screen_of l) ≡ true → n ≡ value q (screen_of l) → n ≡ asking q l
    unfolding asking first_of
    ask_value n ok is = is ∙ sym (pick _ _ _ (eq-eqb _ 0 (sym (own true (sym ok)))))
