-- A changing call c on the lent record l: what it answers and leaves, refused or accepted.
-- Assumes nothing.
use Prim.Native.Nat.{ℕ}
use mathlib.Core.Path.{◌≡◌, refl, sym, ap, ◌∙◌, subst}
use mathlib.Core.List.{List, ◌++◌}
use mathlib.Core.Bool.{Bool, true}
use lib.Dec.{eqb}
use lib.ListN.{length, drop}
use borrow.Author.Tests.{eq-eqb, ne_eqb}
use Rattle.octets.specs.Answer.{refused, number_of, over}
use Rattle.octets.specs.declared.answer.Refusal.{Refusal}
use Rattle.octets.specs.Refusals.{first_of}
use Rattle.std.proofs.lemmas.Bool.{cond-true as pick, cond-false as skip}
use Rattle.octets.proofs.Found.{number_some}
use Rattle.grid.specs.Layout.{SIZE, FLAGS}
use Rattle.grid.specs.Pair.{next_pair}
use Rattle.grid.specs.Screen.{Screen, with_cr, touched_rows}
use Rattle.grid.specs.Record.{rows_of, head_of, screen_of, pair_of, stamp_of, read_state, state_bytes, front_bytes, Leaves, Moves}
use Rattle.grid.specs.Facts.{HeadFits}
use Rattle.grid.specs.declared.head.Head.{Head}
use Rattle.grid.proofs.Validity.{head_fits}
use Rattle.grid.proofs.Record.{left_bytes}
use Rattle.grid.proofs.TouchedLaws.{touched_none}
use Rattle.editor.specs.Call.{Call, PrintBytes, rule, output, lengths, own, last_cr, apply, submitted, answer, cr_after, after_call, step}
use Rattle.editor.specs.Outcome.{change_tests, changing}
use Rattle.editor.proofs.KeptCall.{apply_facts}
use Rattle.editor.proofs.Refusals.{going}
use Rattle.calls.specs.Answers.{Answers}
use Rattle.calls.specs.Parts.{change_found, changed_from, moved_from, moved_next, Tested, Plain, Prints}
use Rattle.calls.proofs.RefusalLaws.{own_none, tests_found}

module _ (c : Call) (long : Bool) (o : ℕ) (l : List ℕ) (t : Tested c long o l) where
  -- e is what refuses it
  pub outcome_refused : (e : Refusal) → number_of e ≡ change_found long o l → changing c l ≡ record { number = refused (number_of e); rec = l; out = output c }
  unfolding changing
  outcome_refused e is =
      let first : ℕ = first_of (change_tests c l) in
      let k = is ∙ tests_found c long o l t in
      skip (eqb first 0) _ _ (ne_eqb first 0 (λ q. number_some e (k ∙ q)))
      ∙ ap (λ (n : ℕ). record { number = refused n; rec = l; out = output c }) (sym k)

  pub call_refused : (e : Refusal) → number_of e ≡ change_found long o l → Answers (changing c l) (refused (number_of e)) l
  call_refused e is = rw (outcome_refused e is) (record { number = refl; left = refl })

  module _ (zero : 0 ≡ change_found long o l) where
    none : first_of (change_tests c l) ≡ 0
    none = sym (zero ∙ tests_found c long o l t)

    pub outcome_done : changing c l ≡ record { number = answer c (screen_of l); rec = state_bytes (step c (read_state l)); out = over (submitted c (screen_of l)) (output c) }
    unfolding changing
    outcome_done = pick (eqb (first_of (change_tests c l)) 0) _ _ (eq-eqb _ 0 none)

    -- the state that it leaves, from the rows of m and the head h
    state_left : (h : Head) (m n : List ℕ) (touched : ℕ) → h ≡ (apply c (screen_of l)).head → rows_of m ≡ (apply c (screen_of l)).rows → length m ≡ SIZE
        → touched ≡ touched_rows (rows_of l) (apply c (screen_of l)).rows
        → n ≡ front_bytes (with_cr h (cr_after c (screen_of l))) (record { pair = next_pair (pair_of l); touched = touched }) ++ drop FLAGS m
        → n ≡ state_bytes (step c (read_state l))
    unfolding step after_call read_state stamp_of
    state_left h m n touched head rows size et e =
        left_bytes m n (with_cr h (cr_after c (screen_of l))) (apply c (screen_of l)).rows (record { pair = next_pair (pair_of l); touched = touched }) size rows e ∙ rw (head, et) refl

    -- work was lent the record k, to change too, and the screen s, to read from; it hands the head h on
    module _ (k : List ℕ) (s : Screen) (h : Head) (same : k ≡ l) (shows : s ≡ screen_of k) where
      its_screen : s ≡ screen_of l
      its_screen = shows ∙ ap screen_of same

      pub head_kept : h ≡ (apply c s).head → HeadFits h
      head_kept is =
          let f = going c l none in
          subst HeadFits (sym (is ∙ ap (λ (x : Screen). (apply c x).head) its_screen)) (head_fits _ (apply_facts c (screen_of l) f.is_in_range f.start.valid.screen).head)

      -- n is what the end of the call leaves, with the bit cr
      module _ (n : List ℕ) (cr : ℕ) (bit : cr_after c (screen_of l) ≡ cr) where
        -- work changed rows, and left m
        pub rows_state : (m : List ℕ) → Leaves (apply c s) k m h → n ≡ changed_from k (with_cr h cr) m → n ≡ state_bytes (step c (read_state l))
        unfolding changed_from
        rows_state m left e =
            let f : Leaves (apply c (screen_of l)) k m h = rw (← its_screen) left in
            let touched = ap (touched_rows (rows_of l)) f.becomes.rows in
            state_left h m n (touched_rows (rows_of l) (rows_of m)) f.head f.becomes.rows f.becomes.size touched (rw (bit, ← same) e)

        module _ (v : ℕ) (ev : v ≡ answer c (screen_of l)) where
          pub rows_done : (m : List ℕ) → Leaves (apply c s) k m h → n ≡ changed_from k (with_cr h cr) m → Answers (changing c l) v n
          rows_done m left e = rw outcome_done (record { number = ev; left = rows_state m left e })

          -- work changed none
          head_done : Moves (apply c s) s h → n ≡ moved_next (with_cr h cr) k → Answers (changing c l) v n
          unfolding moved_next moved_from
          head_done moves e =
              let f : Moves (apply c (screen_of l)) (screen_of l) h = rw (← its_screen) moves in
              let touched = sym (ap (touched_rows (rows_of l)) f.rows ∙ touched_none (rows_of l)) in
              rw outcome_done
              (record { number = ev; left = state_left h l n 0 f.head (sym f.rows) (going c l none).start.size touched (rw (bit, ← same) e) })

-- ---- `moved` and `changed`: a call that answers 0 and lends nothing beside the record

module _ (c : Call) (o cr : ℕ) (l : List ℕ) (plain : Plain c o cr l) (zero : 0 ≡ change_found true o l) (k : List ℕ) (s : Screen) (h : Head) (same : k ≡ l)
    (shows : s ≡ screen_of k) (n : List ℕ) where
  pub changed_done : (m : List ℕ) → Leaves (apply c s) k m h → n ≡ changed_from k (with_cr h cr) m → Answers (changing c l) 0 n
  changed_done = rows_done c true o l plain.tested zero k s h same shows n cr plain.bit 0 (sym plain.answer)

  pub moved_done : Moves (apply c s) s h → n ≡ moved_next (with_cr h cr) k → Answers (changing c l) 0 n
  moved_done = head_done c true o l plain.tested zero k s h same shows n cr plain.bit 0 (sym plain.answer)

-- ---- `printed`: the bytes bs were printed

module _ (bs : List ℕ) (o : ℕ) (l : List ℕ) (zero : 0 ≡ change_found true o l) (k : List ℕ) (s : Screen) (h : Head) (same : k ≡ l)
    (shows : s ≡ screen_of k) where
  pub printed_fits : h ≡ (apply (PrintBytes bs) s).head → HeadFits h
  unfolding lengths own rule first_of
  printed_fits = head_kept (PrintBytes bs) true o l (record { lengths = refl; own = λ q. own_none true o l zero }) zero k s h same shows

  pub printed_done : (m n : List ℕ) → Leaves (apply (PrintBytes bs) s) k m h
      → n ≡ changed_from k (with_cr h (last_cr (head_of k).cr bs)) m → (c : Call) → Prints c o bs l → Answers (changing c l) 0 n
  printed_done m n left e c prints = changed_done c o _ l prints.plain zero k s h same shows n m (rw (prints.same s) left) (rw (← same) e)
