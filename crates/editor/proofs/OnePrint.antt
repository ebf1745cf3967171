-- The old print on the record of a state: when it is accepted, and what it leaves.
-- Assumes nothing.
use Prim.Native.Nat.{ℕ, ◌<◌}
use mathlib.Core.Path.{◌≡◌, refl, sym, ap, ◌∙◌}
use mathlib.Core.Bool.{Bool, true, false}
use mathlib.Core.List.{List, []}
use mathlib.Core.Logic.{◌≢◌, ◌⊎◌, inl, inr}
use native.Mathlib.Omega.{arith}
use lib.ListN.{length}
use Rattle.octets.specs.Answer.{refused, is_refusal}
use Rattle.octets.proofs.Found.{small_accepted}
use Rattle.grid.specs.Screen.{Screen, State}
use Rattle.grid.specs.Layout.{SIZE}
use Rattle.grid.specs.Record.{serial_of, screen_of, read_state, state_bytes}
use Rattle.grid.specs.Conditions.{ValidRecord}
use Rattle.grid.specs.Facts.{StateFacts}
use Rattle.grid.proofs.Bytes.{state_back}
use Rattle.grid.proofs.Conditions.{record_facts}
use Rattle.grid.proofs.Validity.{facts_valid}
use Rattle.editor.specs.Print.{print}
use Rattle.editor.specs.Call.{Call, rule, apply, last_cr, cr_left, cr_after, after_call, step}
use Rattle.editor.specs.Call.Call.{PrintBytes}
use Rattle.editor.specs.Outcome.{LAST-SERIAL, changing}
use Rattle.editor.specs.Refusals.{ChangeRefused}
use Rattle.editor.specs.Refusals.ChangeRefused.{record_length, lent_length, layout, argument, last_serial}
use Rattle.editor.proofs.Refusals.{changing_answers, change_none, going}
use Rattle.editor.proofs.Lists.{change_refused, change_accepted}

-- ---- it is refused for the record's sake alone, or the serial's

accepted_on : (bs l : List ℕ) → length l ≡ SIZE → ValidRecord l → serial_of l ≢ LAST-SERIAL → (changing (PrintBytes bs) l).number < refused 1
accepted_on bs l size v last = (changing_answers (PrintBytes bs) l).number.accepted.1 none
  where
    none : (k : ℕ) → ¬ ChangeRefused (PrintBytes bs) l k
    none k (record_length n) = n size
    none k (layout n) = n v
    none k (last_serial e) = last e
    none k (lent_length x) = elim x [ ]
    none k (argument x) = elim x [ ]

-- so where another call is accepted, it is
pub also_accepted : (c : Call) (bs l : List ℕ) → (changing c l).number < refused 1 → (changing (PrintBytes bs) l).number < refused 1
also_accepted c bs l h =
    let g = going c l (change_none c l h) in
    accepted_on bs l g.start.size (record_facts l (facts_valid l g.start.valid)) g.serial

-- ---- what it leaves; and of nothing even where it is refused, since that leaves the screen as it was

pub nothing_printed : (s : Screen) → after_call (PrintBytes []) s ≡ s
unfolding after_call cr_after cr_left last_cr apply rule print
nothing_printed s = refl

pub left_by_one : (bs : List ℕ) (t : State) → StateFacts t → (bs ≡ []) ⊎ ((changing (PrintBytes bs) (state_bytes t)).number < refused 1)
    → screen_of (changing (PrintBytes bs) (state_bytes t)).rec ≡ after_call (PrintBytes bs) t.screen
unfolding read_state step
left_by_one bs t f p = go p (is_refusal (changing (PrintBytes bs) (state_bytes t)).number) refl
  where
    done : is_refusal (changing (PrintBytes bs) (state_bytes t)).number ≡ false → screen_of (changing (PrintBytes bs) (state_bytes t)).rec ≡ after_call (PrintBytes bs) t.screen
    done q =
        let p = change_accepted (PrintBytes bs) t f q in
        ap screen_of p.left ∙ ap (λ (x : State). x.screen) (state_back _ p.facts)

    go : (bs ≡ []) ⊎ ((changing (PrintBytes bs) (state_bytes t)).number < refused 1) → (r : Bool) → is_refusal (changing (PrintBytes bs) (state_bytes t)).number ≡ r
        → screen_of (changing (PrintBytes bs) (state_bytes t)).rec ≡ after_call (PrintBytes bs) t.screen
    go (inr h) r q = done (small_accepted _ (omega (arith, h)))
    go (inl none) false q = done q
    go (inl none) true q =
        ap screen_of (change_refused (PrintBytes bs) (state_bytes t) q) ∙ ap (λ (x : State). x.screen) (state_back t f)
        ∙ sym (ap (λ (cs : List ℕ). after_call (PrintBytes cs) t.screen) none ∙ nothing_printed t.screen)
