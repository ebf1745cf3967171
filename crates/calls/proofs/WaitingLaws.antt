-- The waiting print: what is so where it is accepted, and what it answers and leaves. o is what its own refusals find.
-- Assumes nothing.
use Prim.Native.Nat.{ℕ, ◌+◌, ◌*◌, ◌≤◌}
use mathlib.Core.Path.{◌≡◌, refl, sym, ap, ap₂, ◌∙◌}
use mathlib.Core.Bool.{Bool, true, false}
use mathlib.Core.List.{List, [], ◌∷◌}
use native.Mathlib.Omega.{arith}
use lib.Dec.{leb}
use lib.ListN.{length, take}
use lib.Seq.{length-take-le}
use mir.Syntax.{w32}
use mir.Val.{Fits}
use borrow.Author.Tests.{leb-true}
use Rattle.octets.specs.Answer.{refused, number_of}
use Rattle.octets.specs.declared.answer.Refusal.{Refusal}
use Rattle.octets.specs.Refusals.{first_of}
use Rattle.grid.specs.Screen.{Screen, with_cr}
use Rattle.grid.specs.Record.{head_of, screen_of}
use Rattle.grid.specs.Facts.{HeadFits}
use Rattle.editor.specs.Call.{PrintWaiting, rule, lengths, own, answer, last_cr, cr_left, cr_after}
use Rattle.editor.specs.Waiting.{taken, scrolls_of, waited}
use Rattle.editor.specs.declared.print.Run.{Run}
use Rattle.editor.specs.Given.{Waits}
use Rattle.editor.specs.Outcome.{changing}
use Rattle.grid.proofs.RefusalLaws.{range_tested}
use Rattle.calls.specs.Answers.{Answers}
use Rattle.calls.specs.Parts.{change_found, changed_from, Tested}
use Rattle.calls.proofs.Changing.{call_refused, head_kept, rows_done}
use Rattle.calls.proofs.RefusalLaws.{own_none}

-- n is what `in_range` has found
pub is_in_range : (few : Bool) (n : ℕ) → n ≡ first_of ((3, few) ∷ []) → n ≡ 0 → few ≡ true
is_in_range few n is none = range_tested few (sym none ∙ is)

module _ (bs l : List ℕ) (rows o : ℕ) (io : o ≡ first_of ((3, leb rows 1000) ∷ (7, leb (length bs) 65535) ∷ [])) where
  its_tests : Tested (PrintWaiting bs rows) true o l
  unfolding lengths own rule
  its_tests = record { lengths = refl; own = λ q. io }

  pub waiting_refused : (e : Refusal) → number_of e ≡ change_found true o l → Answers (changing (PrintWaiting bs rows) l) (refused (number_of e)) l
  waiting_refused = call_refused _ _ _ _ its_tests

  module _ (zero : 0 ≡ change_found true o l) where
    passed : (leb rows 1000 ≡ true) × (leb (length bs) 65535 ≡ true)
    passed = go (leb rows 1000) (leb (length bs) 65535) (sym io ∙ own_none _ _ _ zero)
      where
        go : (a b : Bool) → first_of ((3, a) ∷ (7, b) ∷ []) ≡ 0 → (a ≡ true) × (b ≡ true)
        go a true e = (is_in_range a (first_of ((3, a) ∷ (7, true) ∷ [])) (unfold first_of in refl) e, refl)
        go true false e = absurd (unfold first_of in omega (arith, e))
        go false false e = absurd (unfold first_of in omega (arith, e))

    -- printing was lent the record k, to change too, and the screen s, to read from; it has left m
    module _ (k m : List ℕ) (s : Screen) (w : Run) (same : k ≡ l) (shows : s ≡ screen_of k) (done : Waits bs rows s k m w) where
      few : rows ≤ 1000
      few = leb-true rows 1000 passed.0

      short : w.taken ≤ 65535
      short = omega (arith, leb-true (length bs) 65535 passed.1, done.to)

      pub waited_fits : HeadFits w.head
      waited_fits = head_kept _ _ _ _ its_tests zero k s w.head same shows done.leaves.head

      pub taken_fits : Fits w32 w.taken
      taken_fits = record { fits = omega (arith, short) }

      pub scrolled_fits : Fits w32 (65536 * w.scrolls)
      scrolled_fits = record { fits = omega (arith, few, done.most) }

      pub answer_fits : Fits w32 (w.taken + 65536 * w.scrolls)
      answer_fits = record { fits = omega (arith, short, few, done.most) }

      -- n is what `finish_print` has left, of the bytes taken
      pub waited_done : (n : List ℕ) → n ≡ changed_from k (with_cr w.head (last_cr (head_of k).cr (take w.taken bs))) m
          → Answers (changing (PrintWaiting bs rows) l) (w.taken + 65536 * w.scrolls) n
      unfolding answer waited rule cr_left cr_after
      waited_done n e =
          let at : s ≡ screen_of l = shows ∙ ap screen_of same in
          let front : take w.taken bs ≡ taken (screen_of l) rows bs = done.front ∙ ap (λ (x : Screen). taken x rows bs) at in
          let count : w.taken ≡ length (taken (screen_of l) rows bs) = sym (length-take-le w.taken bs done.to) ∙ ap length front in
          let scrolls : w.scrolls ≡ scrolls_of (screen_of l) (taken (screen_of l) rows bs) = done.scrolled ∙ ap (λ (x : Screen). scrolls_of x (taken x rows bs)) at in
          rows_done _ _ _ _ its_tests zero k s w.head same shows n (last_cr (head_of l).cr (taken (screen_of l) rows bs)) refl (w.taken + 65536 * w.scrolls)
          (ap₂ (λ (x y : ℕ). x + 65536 * y) count scrolls) m done.leaves (rw (← front, ← same) e)
