-- `refusal`: what refuses a changing call is what the tests of the call find.
-- Assumes nothing.
use Prim.Native.Nat.{ℕ}
use mathlib.Core.Path.{◌≡◌, refl, sym, ap, ◌∙◌}
use mathlib.Core.Bool.{Bool, true, false}
use mathlib.Core.List.{List, ◌++◌}
use mathlib.Core.Logic.{◌≢◌}
use lib.Dec.{eqb}
use borrow.Author.Tests.{eq-eqb, ne_eqb, eqb-true, eqb-false}
use Rattle.octets.specs.Answer.{number_of}
use Rattle.octets.specs.declared.answer.Refusal.{Refusal}
use Rattle.octets.specs.Refusals.{first_of, or_else}
use Rattle.octets.proofs.Found.{ordered, ordered_left, ordered_right, first_append, number_some, else_here, else_past, else_none}
use Rattle.grid.specs.Record.{pair_of, serial_of, screen_of}
use Rattle.grid.specs.Refusals.{record_tests}
use Rattle.grid.specs.declared.pair.Pair.{Pair}
use Rattle.grid.proofs.RefusalLaws.{record_ordered, valid_known}
use Rattle.editor.specs.Call.{Call, PrintChecked, lengths, own, rule}
use Rattle.editor.specs.Print.{splits}
use Rattle.editor.specs.Outcome.{LAST-SERIAL, serial_tests, change_tests}
use Rattle.editor.proofs.Refusals.{tells}
use Rattle.calls.specs.Parts.{change_found, Tested}

-- ---- `accepted`: o is what the call's own refusals find

module _ (long : Bool) (o : ℕ) (l : List ℕ) where
  pub record_refused : (e : Refusal) → number_of e ≡ first_of (record_tests long l) → number_of e ≡ change_found long o l
  unfolding change_found
  record_refused e is = is ∙ else_here _ _ (λ q. number_some e (is ∙ q))

  module _ (none : 0 ≡ first_of (record_tests long l)) where
    behind : (m : ℕ) → m ≡ or_else o (first_of (serial_tests l)) → m ≡ change_found long o l
    unfolding change_found
    behind m e = e ∙ else_past _ _ (sym none)

    pub own_refused : (e : Refusal) → number_of e ≡ o → number_of e ≡ change_found long o l
    own_refused e is = behind _ (is ∙ else_here o _ (λ q. number_some e (is ∙ q)))

    module _ (p : Pair) (is : p ≡ pair_of l) (mine : o ≡ 0) where
      pub last_refused : p.serial ≡ LAST-SERIAL → 4 ≡ change_found long o l
      unfolding serial_tests first_of
      last_refused e = behind 4 (rw (eq-eqb (serial_of l) LAST-SERIAL (ap (λ (x : Pair). x.serial) (sym is) ∙ e)) (else_past o 4 mine))

      pub not_refused : p.serial ≢ LAST-SERIAL → 0 ≡ change_found long o l
      unfolding serial_tests first_of
      not_refused ne = behind 0 (rw (ne_eqb (serial_of l) LAST-SERIAL (λ q. ne (ap (λ (x : Pair). x.serial) is ∙ q))) (else_past o 0 mine))

  -- where it has refused nothing
  pub own_none : 0 ≡ change_found long o l → o ≡ 0
  unfolding change_found
  own_none none = (else_none o _ (else_none _ _ (sym none)).1).0

-- the tests of a call find the same
pub tests_found : (c : Call) (long : Bool) (o : ℕ) (l : List ℕ) → Tested c long o l → change_found long o l ≡ first_of (change_tests c l)
unfolding change_found change_tests
tests_found c long o l t =
    let first : List (ℕ × Bool) = record_tests (lengths c) l in
    let mine : List (ℕ × Bool) = own c (screen_of l) in
    let late : ordered 0 (mine ++ serial_tests l) ≡ true = ordered_right 0 first (mine ++ serial_tests l) ((tells c).order l) in
    ap (λ (b : Bool). or_else (first_of (record_tests b l)) (or_else o (first_of (serial_tests l)))) t.lengths
    ∙ go (eqb (first_of first) 0) refl
    ∙ ap (or_else (first_of first)) (sym (first_append 0 mine (serial_tests l) (ordered_left 0 mine (serial_tests l) late)))
    ∙ sym (first_append 0 first (mine ++ serial_tests l) (record_ordered l (lengths c)))
  where
    go : (b : Bool) → b ≡ eqb (first_of (record_tests (lengths c) l)) 0
        → or_else (first_of (record_tests (lengths c) l)) (or_else o (first_of (serial_tests l)))
        ≡ or_else (first_of (record_tests (lengths c) l)) (or_else (first_of (own c (screen_of l))) (first_of (serial_tests l)))
    go true e =
        ap (λ (x : ℕ). or_else (first_of (record_tests (lengths c) l)) (or_else x (first_of (serial_tests l))))
        (t.own (valid_known (lengths c) l (sym (eqb-true _ 0 (sym e)))).size)
    go false e = let some = eqb-false _ 0 (sym e) in sym (else_here _ _ some) ∙ else_here _ _ some

-- ---- `whole_line_ends`: t is what `splits` has answered

module _ (l bs : List ℕ) (t : Bool) (is : t ≡ splits (screen_of l) bs) where
  pub split_found : t ≡ true → 13 ≡ first_of (own (PrintChecked bs) (screen_of l))
  unfolding own rule first_of
  split_found e = rw (sym is ∙ e) refl

  pub split_none : t ≡ false → 0 ≡ first_of (own (PrintChecked bs) (screen_of l))
  unfolding own rule first_of
  split_none e = rw (sym is ∙ e) refl
