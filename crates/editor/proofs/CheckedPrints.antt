-- Checked prints in turn, if accepted, leave the screen that one print of their inputs together leaves.
-- Assumes nothing.
use Prim.Native.Nat.{ℕ}
use mathlib.Core.Path.{◌≡◌, refl, sym, ap, ◌∙◌, subst}
use mathlib.Core.Bool.{Bool, true, false, not, ◌&&◌}
use mathlib.Core.List.{List, [], ◌∷◌, ◌++◌}
use mathlib.Core.Logic.{inl, inr, ⊎_elim}
use lib.Dec.{eqb}
use lib.ListN.{length, get_or, take}
use lib.Seq.{take-length}
use borrow.Author.Tests.{not-true}
use Rattle.octets.specs.Answer.{is_refusal}
use Rattle.octets.specs.Refusals.{all_pass}
use Rattle.std.proofs.lemmas.Bool.{and_cases}
use Rattle.octets.proofs.Bools.{and_left, and_right, and_both, and_false, left_false}
use Rattle.octets.proofs.Found.{is_accepted}
use Rattle.grid.specs.Screen.{Screen, State}
use Rattle.grid.specs.Record.{screen_of, read_state, state_bytes}
use Rattle.grid.specs.Facts.{StateFacts}
use Rattle.grid.proofs.Bytes.{state_back, bytes_back}
use Rattle.grid.proofs.Conditions.{conditions_record}
use Rattle.editor.specs.Print.{print, splits}
use Rattle.editor.specs.Call.{Call, rule, output, own, in_range, apply, submitted, answer, last_cr, cr_left, cr_after, after_call, step}
use Rattle.editor.specs.Call.Call.{PrintBytes, PrintChecked}
use Rattle.editor.specs.Outcome.{changing}
use Rattle.editor.specs.Lists.{accepted, record_left, screen_left, steps}
use Rattle.editor.specs.CheckedPrints.{in_turn, together, CheckedPrints}
use Rattle.editor.proofs.PrintParts.{two_prints}
use Rattle.editor.proofs.Refusals.{changing_answers}
use Rattle.editor.proofs.OnePrint.{also_accepted, left_by_one}
use Rattle.editor.proofs.Lists.{change_accepted, state_of, calls_left, calls_facts, steps_screen, all_accepted}

-- ---- on screens

-- no input is refused, each on the screen that those before it leave
unfoldable none_splits : Screen → List (List ℕ) → Bool
none_splits s [] = true
none_splits s (bs ∷ inputs) = not (splits s bs) && none_splits (after_call (PrintChecked bs) s) inputs

-- an empty input leaves the screen as it is, so the first byte of all is the first one of an input on this screen
first_byte : (inputs : List (List ℕ)) (s : Screen) → none_splits s inputs ≡ true → splits s (together inputs) ≡ false
unfolding none_splits together splits after_call cr_after cr_left last_cr apply rule print
first_byte [] s w = refl
first_byte ([] ∷ inputs) s w = first_byte inputs s w
first_byte ((b ∷ bs) ∷ inputs) s w = not-true _ (and_left (not (eqb b 10 && eqb s.head.cr 1)) _ w)

-- a 10 that follows 13 would be refused
not_parted : (as' bs : List ℕ) (s : Screen) → splits (after_call (PrintBytes as') s) bs ≡ false → eqb (last_cr 0 as') 1 && eqb (get_or bs 0 0) 10 ≡ false
unfolding splits after_call cr_after cr_left last_cr rule
not_parted [] bs s e = refl
not_parted (a ∷ as') bs s e =
    let ten : Bool = eqb (get_or bs 0 0) 10 in
    let set : Bool = eqb (last_cr 0 (a ∷ as')) 1 in
    ⊎_elim (and_false set ten) (left_false set ten) (and_cases ten set e)

-- so the checked prints leave what one print leaves
one_print : (inputs : List (List ℕ)) (s : Screen) → none_splits s inputs ≡ true → screen_left s (in_turn inputs) ≡ after_call (PrintBytes (together inputs)) s
unfolding none_splits in_turn together screen_left after_call cr_after cr_left last_cr apply rule print
one_print [] s w = refl
one_print (bs ∷ inputs) s w =
    let t : Screen = after_call (PrintBytes bs) s in
    let rest : none_splits t inputs ≡ true = and_right (not (splits s bs)) _ w in
    one_print inputs t rest ∙ two_prints bs (together inputs) s (not_parted bs (together inputs) s (first_byte inputs t rest))

-- ---- on records

-- of accepted checked prints none splits
all_unsplit : (inputs : List (List ℕ)) (t : State) → StateFacts t → accepted (state_bytes t) (in_turn inputs) ≡ in_turn inputs → none_splits t.screen inputs ≡ true
unfolding none_splits in_turn accepted step in_range own rule all_pass
all_unsplit [] t f e = refl
all_unsplit (bs ∷ inputs) t f e =
    let c : Call = PrintChecked bs in
    let a = all_accepted c (in_turn inputs) (state_bytes t) e in
    let p = change_accepted c t f a.0 in
    and_both (not (splits t.screen bs)) _ (and_left (not (splits t.screen bs)) true p.is_in_range)
    (all_unsplit inputs (step c t) p.facts (rw p.left at a.1))

module _ (inputs : List (List ℕ)) (t : State) (f : StateFacts t) (e : accepted (state_bytes t) (in_turn inputs) ≡ in_turn inputs) where
  left_in_turn : screen_of (record_left (state_bytes t) (in_turn inputs)) ≡ after_call (PrintBytes (together inputs)) t.screen
  unfolding read_state
  left_in_turn =
      let cs : List Call = in_turn inputs in
      let left : record_left (state_bytes t) cs ≡ state_bytes (steps cs t) = calls_left cs t f ∙ ap (λ (ds : List Call). state_bytes (steps ds t)) e in
      let first = calls_facts (length cs) cs t f in
      let all : take (length cs) (accepted (state_bytes t) cs) ≡ cs = ap (take (length cs)) e ∙ take-length cs in
      let facts = subst (λ (ds : List Call). StateFacts (steps ds t)) all first in
      ap screen_of left ∙ ap (λ (x : State). x.screen) (state_back (steps cs t) facts) ∙ steps_screen cs t ∙ one_print inputs t.screen (all_unsplit inputs t f e)

-- ---- the one print

one_left : (inputs : List (List ℕ)) (t : State) → StateFacts t → accepted (state_bytes t) (in_turn inputs) ≡ in_turn inputs
    → screen_of (changing (PrintBytes (together inputs)) (state_bytes t)).rec ≡ after_call (PrintBytes (together inputs)) t.screen
unfolding in_turn together
one_left [] t f e = left_by_one [] t f (inl refl)
one_left (bs ∷ inputs) t f e =
    let c : Call = PrintChecked bs in
    let a = all_accepted c (in_turn inputs) (state_bytes t) e in
    left_by_one (bs ++ together inputs) t f (inr (also_accepted c (bs ++ together inputs) (state_bytes t) (is_accepted _ a.0)))

as_print : (bs l : List ℕ) → is_refusal (changing (PrintChecked bs) l).number ≡ false → changing (PrintChecked bs) l ≡ changing (PrintBytes bs) l
unfolding answer submitted output step after_call cr_after apply rule
as_print bs l e =
    let h = is_accepted _ e in
    (changing_answers (PrintChecked bs) l).done h ∙ sym ((changing_answers (PrintBytes bs) l).done (also_accepted (PrintChecked bs) bs l h))

-- ---- the promise

pub checked_prints : CheckedPrints
checked_prints =
    record {
      as_print = as_print;
      each_in_turn = λ inputs l b v e.
          let w = conditions_record l v in
          let t : State = read_state l in
          let f = state_of l w b in
          let back = bytes_back l w b in
          let e' : accepted (state_bytes t) (in_turn inputs) ≡ in_turn inputs = ap (λ (x : List ℕ). accepted x (in_turn inputs)) back ∙ e in
          ap (λ (x : List ℕ). screen_of (record_left x (in_turn inputs))) (sym back) ∙ left_in_turn inputs t f e' ∙ sym (one_left inputs t f e')
          ∙ ap (λ (x : List ℕ). screen_of (changing (PrintBytes (together inputs)) x).rec) back;
    }
