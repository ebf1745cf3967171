-- The screen record along the calls: after any number of calls it is that of the accepted ones among them, and so its serial determines it.
-- Assumes nothing.
use Prim.Native.Nat.{ℕ, suc, ◌≤◌, ◌<◌}
use mathlib.Core.Path.{◌≡◌, sym, ap, ap₂, ◌∙◌}
use mathlib.Core.Bool.{true}
use mathlib.Core.List.{List}
use native.Mathlib.Omega.{arith}
use lib.ListN.{length, take, length-take}
use borrow.Author.Tests.{eq-eqb}
use Rattle.octets.specs.Answer.{Written}
use Rattle.grid.specs.Layout.{SIZE, SERIALS}
use Rattle.grid.specs.Screen.{Screen, State, valid_screen, touched_rows, new_state}
use Rattle.grid.specs.Record.{state_bytes}
use Rattle.grid.specs.Facts.{StateFacts}
use Rattle.octets.specs.Refusals.{first_of}
use Rattle.std.proofs.lemmas.Bool.{cond-true as pick}
use Rattle.editor.specs.Call.{Call}
use Rattle.editor.specs.Lists.{steps, accepted, record_left}
use Rattle.editor.specs.Outcome.{creating}
use Rattle.mirror.specs.Demand3.{Sitting, new_record, record_after, accepted_by, screen_after}
use Rattle.octets.proofs.Found.{unless_none}
use Rattle.editor.proofs.Lists.{steps_screen, steps_serial, steps_sitting, steps_touched, accepted_first, calls_facts, calls_left, new_facts}

module _ (s : Sitting) where
  -- the accepted calls
  pub calls : List Call
  calls = accepted (new_record s) s.calls

  -- what the record holds after the first m of them
  pub state_at : ℕ → State
  state_at m = steps (take m calls) (new_state s.width s.number)

  new_record_is : new_record s ≡ state_bytes (new_state s.width s.number)
  unfolding new_record creating first_of
  new_record_is =
      ap (λ (o : Written). o.bytes) (unless_none _ _ _ (pick _ _ _ (eq-eqb (length s.buffer) SIZE s.buffer_size)))

  pub facts_at : (m : ℕ) → StateFacts (state_at m)
  unfolding state_at calls
  facts_at m = rw new_record_is (calls_facts m s.calls (new_state s.width s.number) (new_facts s.width s.number s.number_fits))

  pub screen_at : (m : ℕ) → (state_at m).screen ≡ screen_after s m
  unfolding state_at calls screen_after new_state
  screen_at m = steps_screen (take m calls) (new_state s.width s.number)

  pub valid_at : (m : ℕ) → valid_screen (screen_after s m) ≡ true
  valid_at m = rw screen_at at (facts_at m).screen

  serial_at : (m : ℕ) → m ≤ length calls → (state_at m).stamp.pair.serial ≡ m
  unfolding state_at new_state
  serial_at m h = omega (arith, steps_serial (take m calls) (new_state s.width s.number), length-take m calls)

  sitting_at : (m : ℕ) → (state_at m).stamp.pair.sitting ≡ s.number
  unfolding state_at new_state
  sitting_at m = steps_sitting (take m calls) (new_state s.width s.number)

  pub pair_at_is : (m : ℕ) → m ≤ length calls → (state_at m).stamp.pair ≡ record { sitting = s.number; serial = m }
  pair_at_is m h = λ i. record { sitting = sitting_at m i; serial = serial_at m h i }

  -- no call is accepted at the last serial
  pub calls_few : length calls < SERIALS
  calls_few = omega (arith, (facts_at (length calls)).pair.serial, serial_at (length calls) (omega arith))

  pub touched_at : (m : ℕ) → m < length calls → (state_at (suc m)).stamp.touched ≡ touched_rows (screen_after s m).rows (screen_after s (suc m)).rows
  unfolding state_at
  touched_at m h =
      steps_touched m calls (new_state s.width s.number) h
      ∙ ap₂ (λ (a b : Screen). touched_rows a.rows b.rows) (screen_at m) (screen_at (suc m))

  pub accepted_le : (k : ℕ) → accepted_by s k ≤ length calls
  unfolding accepted_by calls
  accepted_le k =
      let ds = accepted (new_record s) (take k s.calls) in
      omega (arith, ap length (accepted_first k s.calls (new_record s)), length-take (length ds) calls)

  -- the record after the first k calls
  pub record_is : (k : ℕ) → record_after s k ≡ state_bytes (state_at (accepted_by s k))
  unfolding record_after accepted_by state_at calls
  record_is k =
      let t = new_state s.width s.number in
      ap (λ (l : List ℕ). record_left l (take k s.calls)) new_record_is ∙ calls_left (take k s.calls) t (new_facts s.width s.number s.number_fits)
      ∙ ap (λ (l : List ℕ). state_bytes (steps (accepted l (take k s.calls)) t)) (sym new_record_is)
      ∙ ap (λ (ds : List Call). state_bytes (steps ds t)) (accepted_first k s.calls (new_record s))
