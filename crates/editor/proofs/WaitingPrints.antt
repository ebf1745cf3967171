-- What is promised of the waiting print: what its number says, that it leaves what the old print of the bytes taken leaves, and that printing the rest makes one print of all.
-- Assumes nothing.
use Prim.Native.Nat.{ℕ, ◌+◌, ◌*◌, ◌/◌, ◌%◌, ◌≤◌, ◌<◌}
use mathlib.Core.Path.{◌≡◌, refl, sym, ap, ◌∙◌, subst}
use mathlib.Core.Bool.{Bool, true, false}
use mathlib.Core.List.{List, [], ◌∷◌, ◌++◌, append-nil}
use mathlib.Core.Logic.{◌⊎◌, inl, inr}
use native.Mathlib.Omega.{arith}
use lib.Arith.{digits_mod, digits_div}
use lib.Dec.{leb, ltb}
use lib.ListN.{length, take, drop, take-append-drop}
use lib.Seq.{take_all}
use borrow.Author.Tests.{leb-true, ltb-true, ltb-false}
use Rattle.octets.specs.Answer.{refused, is_refusal}
use Rattle.octets.specs.Refusals.{all_pass}
use Rattle.octets.specs.Test.{every, is_byte}
use Rattle.octets.proofs.Bools.{and_left, and_right}
use Rattle.octets.proofs.Found.{is_accepted}
use Rattle.grid.specs.Screen.{Screen, State}
use Rattle.grid.specs.Record.{screen_of, read_state, state_bytes}
use Rattle.grid.specs.Conditions.{ValidRecord}
use Rattle.grid.specs.Facts.{StateFacts}
use Rattle.grid.proofs.Bytes.{state_back, bytes_back}
use Rattle.grid.proofs.Conditions.{conditions_record}
use Rattle.editor.specs.Waiting.{scrolls_of, taken, waited}
use Rattle.editor.specs.Call.{Call, rule, own, in_range, apply, answer, cr_left, cr_after, after_call, step}
use Rattle.editor.specs.Call.Call.{PrintBytes, PrintWaiting}
use Rattle.editor.specs.Outcome.{Outcome, changing}
use Rattle.editor.specs.Lists.{accepted, record_left}
use Rattle.editor.specs.WaitingPrints.{bytes_in, rows_in, rest_of, waits, rest, Counted, WaitingPrints}
use Rattle.editor.proofs.PrintParts.{two_prints}
use Rattle.editor.proofs.Taken.{taken_to, taken_front, taken_most, taken_stop, taken_is, taken_some, taken_whole}
use Rattle.editor.proofs.Refusals.{changing_answers, change_none, going}
use Rattle.editor.proofs.Lists.{change_accepted, state_of, all_accepted}
use Rattle.editor.proofs.OnePrint.{also_accepted, left_by_one, nothing_printed}

-- ---- the number of an accepted one

module _ (bs : List ℕ) (rows : ℕ) (l : List ℕ) (e : is_refusal (changing (PrintWaiting bs rows) l).number ≡ false) where
  abbrev s : Screen
  s = screen_of l

  abbrev n : ℕ
  n = (changing (PrintWaiting bs rows) l).number

  few : (rows ≤ 1000) × (length bs ≤ 65535)
  unfolding in_range own rule all_pass
  few =
      let h = is_accepted _ e in
      let r = (going (PrintWaiting bs rows) l (change_none (PrintWaiting bs rows) l h)).is_in_range in
      (leb-true rows 1000 (and_left (leb rows 1000) _ r), leb-true (length bs) 65535 (and_left (leb (length bs) 65535) true (and_right (leb rows 1000) _ r)))

  number_is : n ≡ scrolls_of s (taken s rows bs) * 65536 + length (taken s rows bs)
  unfolding answer rule waited
  number_is =
      let h = is_accepted _ e in
      ap (λ (o : Outcome). o.number) ((changing_answers (PrintWaiting bs rows) l).done h) ∙ omega arith

  bytes_is : bytes_in n ≡ length (taken s rows bs)
  unfolding bytes_in
  bytes_is = ap (λ (k : ℕ). k % 65536) number_is ∙ digits_mod (scrolls_of s (taken s rows bs)) (omega (arith, few.1, taken_to s bs rows))

  rows_is : rows_in n ≡ scrolls_of s (taken s rows bs)
  unfolding rows_in
  rows_is = ap (λ (k : ℕ). k / 65536) number_is ∙ digits_div (scrolls_of s (taken s rows bs)) (omega (arith, few.1, taken_to s bs rows))

  front_is : take (bytes_in n) bs ≡ taken s rows bs
  front_is = ap (λ (k : ℕ). take k bs) bytes_is ∙ taken_front s bs rows

  counted : Counted bs rows s n
  counted =
      record {
        scrolls = rows_is ∙ ap (scrolls_of s) (sym front_is);
        within = omega (arith, rows_is, taken_most s bs rows);
        stops = go (ltb (bytes_in n) (length bs)) refl;
        goes_on = λ r some. omega (arith, bytes_is, taken_some s bs rows r some);
      }
    where
      go : (b : Bool) → ltb (bytes_in n) (length bs) ≡ b → (bytes_in n ≡ length bs) ⊎ ((bytes_in n < length bs) × (scrolls_of s (take (bytes_in n + 1) bs) ≡ rows + 1))
      go true q =
          let lt = ltb-true (bytes_in n) (length bs) q in
          inr (lt, ap (λ (k : ℕ). scrolls_of s (take (k + 1) bs)) bytes_is ∙ taken_stop s bs rows (omega (arith, bytes_is)))
      go false q = inl (omega (arith, ltb-false (bytes_in n) (length bs) q, bytes_is, taken_to s bs rows))

  -- ---- it is the old print of the bytes taken

  as_taken : (changing (PrintWaiting bs rows) l).rec ≡ (changing (PrintBytes (taken s rows bs)) l).rec
  unfolding step after_call cr_after cr_left apply rule read_state
  as_taken =
      let h = is_accepted _ e in
      ap (λ (o : Outcome). o.rec) ((changing_answers (PrintWaiting bs rows) l).done h)
      ∙ sym (ap (λ (o : Outcome). o.rec) ((changing_answers (PrintBytes (taken s rows bs)) l).done (also_accepted (PrintWaiting bs rows) (taken s rows bs) l h)))

  as_print : (changing (PrintWaiting bs rows) l).rec ≡ (changing (PrintBytes (take (bytes_in n) bs)) l).rec
  as_print = as_taken ∙ ap (λ (cs : List ℕ). (changing (PrintBytes cs) l).rec) (sym front_is)

  with_room : scrolls_of s bs ≤ rows → (changing (PrintWaiting bs rows) l).rec ≡ (changing (PrintBytes bs) l).rec
  with_room room =
      let all : take (length bs) bs ≡ bs = take_all (length bs) bs (omega arith) in
      let whole : take (length bs) bs ≡ taken s rows bs =
      taken_is s bs rows (length bs) (omega arith) (omega (arith, ap (scrolls_of s) all)) (λ lt. absurd (omega arith)) in
      as_taken ∙ ap (λ (cs : List ℕ). (changing (PrintBytes cs) l).rec) (sym whole ∙ all)

-- ---- a waiting print, and then a print of the rest

module _ (bs : List ℕ) (rows : ℕ) (t : State) (f : StateFacts t) (e : is_refusal (changing (PrintWaiting bs rows) (state_bytes t)).number ≡ false) where
  then_rest : after_call (PrintBytes (rest_of rows (state_bytes t) bs)) (step (PrintWaiting bs rows) t).screen ≡ after_call (PrintBytes bs) t.screen
  unfolding rest_of step after_call cr_after cr_left apply rule read_state
  then_rest =
      let x : Screen = t.screen in
      let back : screen_of (state_bytes t) ≡ x = ap (λ (y : State). y.screen) (state_back t f) in
      let count : bytes_in (changing (PrintWaiting bs rows) (state_bytes t)).number ≡ length (taken x rows bs) =
      bytes_is bs rows (state_bytes t) e ∙ ap (λ (y : Screen). length (taken y rows bs)) back in
      let others : rest_of rows (state_bytes t) bs ≡ drop (length (taken x rows bs)) bs = ap (λ (k : ℕ). drop k bs) count in
      let whole : taken x rows bs ++ drop (length (taken x rows bs)) bs ≡ bs =
      ap (λ (cs : List ℕ). cs ++ drop (length (taken x rows bs)) bs) (sym (taken_front x bs rows)) ∙ take-append-drop (length (taken x rows bs)) bs in
      ap (λ (cs : List ℕ). after_call (PrintBytes cs) (after_call (PrintBytes (taken x rows bs)) x)) others
      ∙ two_prints (taken x rows bs) (drop (length (taken x rows bs)) bs) x (taken_whole x bs rows) ∙ ap (λ (cs : List ℕ). after_call (PrintBytes cs) x) whole

-- ---- so in turn; ends is how the host ends with what the waiting prints have not taken, of which Q is so

module _ (ends : List ℕ → List Call) (Q : List ℕ → Type 0)
    (end : (bs : List ℕ) (t : State) → StateFacts t → Q bs → accepted (state_bytes t) (ends bs) ≡ ends bs
    → screen_of (record_left (state_bytes t) (ends bs)) ≡ after_call (PrintBytes bs) t.screen) where
  abbrev calls : List ℕ → List ℕ → List ℕ → List Call
  calls limits l bs = waits limits l bs ++ ends (rest limits l bs)

  each_in_turn : (limits bs : List ℕ) (t : State) → StateFacts t → Q (rest limits (state_bytes t) bs) → accepted (state_bytes t) (calls limits (state_bytes t) bs) ≡ calls limits (state_bytes t) bs
      → screen_of (record_left (state_bytes t) (calls limits (state_bytes t) bs)) ≡ after_call (PrintBytes bs) t.screen
  unfolding waits rest record_left
  each_in_turn [] bs t f q e = end bs t f q e
  each_in_turn (rows ∷ limits) bs t f q e =
      let c : Call = PrintWaiting bs rows in
      let r : List ℕ = rest_of rows (state_bytes t) bs in
      let a = all_accepted c (calls limits (changing c (state_bytes t)).rec r) (state_bytes t) e in
      let p = change_accepted c t f a.0 in
      ap (λ (l : List ℕ). screen_of (record_left l (calls limits l r))) p.left
      ∙ each_in_turn limits r (step c t) p.facts (subst (λ (l : List ℕ). Q (rest limits l r)) p.left q)
      (subst (λ (l : List ℕ). accepted l (calls limits l r) ≡ calls limits l r) p.left a.1)
      ∙ then_rest bs rows t f a.0

  -- what the one print of all leaves, if it is accepted where the host begins to end
  module _ (also : (bs : List ℕ) (t : State) → StateFacts t → Q bs → accepted (state_bytes t) (ends bs) ≡ ends bs
      → (bs ≡ []) ⊎ ((changing (PrintBytes bs) (state_bytes t)).number < refused 1)) where
    one_left : (limits bs : List ℕ) (t : State) → StateFacts t → Q (rest limits (state_bytes t) bs) → accepted (state_bytes t) (calls limits (state_bytes t) bs) ≡ calls limits (state_bytes t) bs
        → (bs ≡ []) ⊎ ((changing (PrintBytes bs) (state_bytes t)).number < refused 1)
    unfolding waits rest
    one_left [] bs t f q e = also bs t f q e
    one_left (rows ∷ limits) bs t f q e =
        let c : Call = PrintWaiting bs rows in
        let a = all_accepted c (calls limits (changing c (state_bytes t)).rec (rest_of rows (state_bytes t) bs)) (state_bytes t) e in
        inr (also_accepted c bs (state_bytes t) (is_accepted _ a.0))

    -- on records
    pub one_print : (limits bs l : List ℕ) → every is_byte l ≡ true → ValidRecord l → Q (rest limits l bs) → accepted l (calls limits l bs) ≡ calls limits l bs
        → screen_of (record_left l (calls limits l bs)) ≡ screen_of (changing (PrintBytes bs) l).rec
    one_print limits bs l b v q e =
        let w = conditions_record l v in
        let f = state_of l w b in
        let back = sym (bytes_back l w b) in
        let q' = subst (λ (x : List ℕ). Q (rest limits x bs)) back q in
        let e' = subst (λ (x : List ℕ). accepted x (calls limits x bs) ≡ calls limits x bs) back e in
        subst (λ (x : List ℕ). screen_of (record_left x (calls limits x bs)) ≡ screen_of (changing (PrintBytes bs) x).rec) (sym back)
        (each_in_turn limits bs (read_state l) f q' e' ∙ sym (left_by_one bs (read_state l) f (one_left limits bs (read_state l) f q' e')))

-- ---- the promise

-- by the old print
printed_end : (bs : List ℕ) (t : State) → StateFacts t → accepted (state_bytes t) (PrintBytes bs ∷ []) ≡ PrintBytes bs ∷ [] → (changing (PrintBytes bs) (state_bytes t)).number < refused 1
printed_end bs t f e = is_accepted _ (all_accepted (PrintBytes bs) [] (state_bytes t) e).0

-- or where nothing is left, by nothing
waited_end : (bs : List ℕ) (t : State) → StateFacts t → bs ≡ [] → screen_of (state_bytes t) ≡ after_call (PrintBytes bs) t.screen
unfolding read_state
waited_end bs t f none =
    ap (λ (x : State). x.screen) (state_back t f) ∙ sym (ap (λ (cs : List ℕ). after_call (PrintBytes cs) t.screen) none ∙ nothing_printed t.screen)

pub waiting_prints : WaitingPrints
unfolding record_left
waiting_prints =
    record {
      counted = counted;
      as_print = as_print;
      with_room = with_room;
      rest_printed = λ limits bs l b v e.
          one_print (λ r. PrintBytes r ∷ []) (λ r. Unit {0}) (λ bs t f q e. left_by_one bs t f (inr (printed_end bs t f e))) (λ bs t f q e. inr (printed_end bs t f e)) limits bs l b v tt e;
      rest_waited = λ limits bs l b v none e.
          let nil = append-nil (waits limits l bs) in
          subst (λ (cs : List Call). screen_of (record_left l cs) ≡ screen_of (changing (PrintBytes bs) l).rec) nil
          (one_print (λ r. []) (λ r. r ≡ []) (λ bs t f q e. waited_end bs t f q) (λ bs t f q e. inl q) limits bs l b v none
          (subst (λ (cs : List Call). accepted l cs ≡ cs) (sym nil) e));
    }
