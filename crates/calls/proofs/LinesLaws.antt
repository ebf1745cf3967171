-- `lines`: `take_logical_line`, which hands out a text.
-- Assumes nothing.
use Prim.Native.Nat.{ℕ, ◌≤◌}
use mathlib.Core.Path.{◌≡◌, refl, sym, ap, ◌∙◌}
use mathlib.Core.List.{List}
use lib.Dec.{leb}
use lib.ListN.{length, take}
use borrow.Author.Tests.{leb-true}
use Rattle.octets.specs.Answer.{refused, number_of, over, wrote, Writes}
use Rattle.octets.specs.declared.answer.Refusal.{Refusal}
use Rattle.octets.specs.Refusals.{first_of}
use Rattle.grid.specs.Screen.{Screen, with_cr}
use Rattle.grid.specs.Record.{screen_of, Leaves}
use Rattle.grid.specs.Facts.{HeadFits}
use Rattle.grid.specs.declared.head.Head.{Head}
use Rattle.line.specs.Line.{MAX-LOGICAL, line_text}
use Rattle.line.specs.Text.{Reads}
use Rattle.line.specs.declared.text.Reading.{Reading}
use Rattle.editor.specs.Lines.{take_logical_line}
use Rattle.editor.specs.Call.{TakeLogicalLine, output, lengths, own, submitted, answer, apply, rule, cr_left, cr_after}
use Rattle.editor.specs.Outcome.{changing}
use Rattle.editor.proofs.Refusals.{going}
use Rattle.calls.specs.Answers.{Submits}
use Rattle.calls.specs.Parts.{change_found, changed_from, Tested}
use Rattle.calls.proofs.Changing.{outcome_refused, outcome_done, head_kept, rows_state}
use Rattle.calls.proofs.RefusalLaws.{tests_found}

module _ (l out : List ℕ) where
  its_tests : Tested (TakeLogicalLine out) (leb MAX-LOGICAL (length out)) 0 l
  unfolding lengths own rule first_of
  its_tests = record { lengths = refl; own = λ q. refl }

  pub take_refused : (e : Refusal) → number_of e ≡ change_found (leb MAX-LOGICAL (length out)) 0 l → Submits (changing (TakeLogicalLine out) l) (refused (number_of e)) l out
  unfolding output rule
  take_refused e is = rw (outcome_refused _ _ _ _ its_tests e is) (record { number = refl; left = refl; output = refl })

  module _ (zero : 0 ≡ change_found (leb MAX-LOGICAL (length out)) 0 l) where
    pub take_long : MAX-LOGICAL ≤ length out
    unfolding lengths rule
    take_long = leb-true _ _ (going (TakeLogicalLine out) l (sym (zero ∙ tests_found _ _ _ _ its_tests))).start.lengths_taken

    -- work was lent the record k, to change too, and the screen s, to read from; it has left m, and hands the head h on
    module _ (k m : List ℕ) (s : Screen) (h : Head) (same : k ≡ l) (shows : s ≡ screen_of k) (left : Leaves (take_logical_line s) k m h) where
      pub take_fits : HeadFits h
      unfolding apply rule
      take_fits = head_kept _ _ _ _ its_tests zero k s h same shows left.head

      -- t is the reading of the line under the cursor
      pub take_done : (t : Reading) (v : ℕ) (r out' : List ℕ) → Reads t (line_text s) → r ≡ changed_from k (with_cr h 0) m
          → Writes (wrote (take t.len t.bytes) out) v out' → Submits (changing (TakeLogicalLine out) l) v r out'
      unfolding lengths apply submitted answer output rule wrote cr_left cr_after
      take_done t v r out' reads e w =
          let text : take t.len t.bytes ≡ line_text (screen_of l) = reads.text ∙ ap line_text (shows ∙ ap screen_of same) in
          rw (outcome_done _ _ _ _ its_tests zero)
          (record {
            number = w.number ∙ ap length text;
            left = rows_state _ _ _ _ its_tests zero k s h same shows r 0 refl m left e;
            output = w.left ∙ ap (λ (x : List ℕ). over x out) text;
          })
