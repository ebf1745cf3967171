-- Lists of calls: a refused call leaves the record as it was, an accepted one leaves what the rules say, which a record can hold; so after any number of
-- calls the record is that of the accepted ones among them.
-- Assumes nothing.
use Prim.Native.Nat.{ℕ, ◌^◌, ◌≤◌, ◌<◌, zero, suc, ◌+◌}
use mathlib.Core.Path.{◌≡◌, sym, ap, ◌∙◌, subst, refl}
use mathlib.Core.Bool.{true, false, Bool}
use mathlib.Core.List.{List, [], ◌∷◌}
use native.Mathlib.Omega.{arith}
use lib.ListN.{length, take, drop}
use mathlib.Core.Logic.{◌≢◌}
use Rattle.octets.specs.Answer.{is_refusal}
use Rattle.grid.specs.Layout.{PAIR, MASKS, SERIALS}
use Rattle.grid.specs.Screen.{Row, State, number, differing, touched_rows, new_state}
use Rattle.grid.specs.Pair.{next_pair}
use Rattle.grid.specs.Record.{pair_of, stamp_of, touched_of, screen_of, read_state, state_bytes}
use Rattle.octets.specs.Test.{every, is_byte}
use Rattle.grid.proofs.PairLaws.{pair_fits}
use Rattle.grid.specs.Conditions.{ValidRecord}
use Rattle.grid.specs.Facts.{RowsFacts, StateFacts, Valid}
use Rattle.octets.proofs.Bools.{cases, either}
use Rattle.grid.proofs.Bytes.{state_back, pair_back, state_valid, bytes_back}
use Rattle.grid.proofs.TouchedLaws.{number_lt, length_differing}
use Rattle.grid.proofs.Validity.{screen_facts, screen_valid}
use Rattle.grid.proofs.Conditions.{conditions_record, record_facts}
use Rattle.grid.specs.declared.pair.Pair.{Pair}
use Rattle.editor.specs.Call.{Call, in_range, after_call, step}
use Rattle.editor.specs.Outcome.{LAST-SERIAL, Outcome, changing}
use Rattle.editor.proofs.KeptCall.{after_facts}
use Rattle.editor.proofs.Refusals.{changing_answers, change_none, going}
use Rattle.octets.proofs.Found.{is_accepted, refusal_from}
use Rattle.std.specs.Prelude.{if◌then◌else◌}
use Rattle.grid.proofs.Keep.{new_screen_facts}
use Rattle.editor.specs.Lists.{steps, accepted, screen_left, record_left}

-- the mask of touched rows
pub touched_lt : {w v : ℕ} {old new : List Row} → RowsFacts w 25 old → RowsFacts v 25 new → touched_rows old new < MASKS
unfolding touched_rows
touched_lt {old = old} {new = new} f g =
    let n : length (differing old new) ≡ 25 = length_differing old new (f.count ∙ sym g.count) ∙ f.count in
    subst (λ (i : ℕ). number (differing old new) < 2 ^ i) n (number_lt (differing old new))

module _ (c : Call) (t : State) (f : StateFacts t) where
  pub state_step : in_range c t.screen ≡ true → t.stamp.pair.serial < LAST-SERIAL → StateFacts (step c t)
  unfolding step next_pair after_call
  state_step r h =
      let old = screen_facts t.screen f.screen in
      let new = after_facts c t.screen r old in
      record { pair = record { sitting = f.pair.sitting; serial = omega arith }; touched = touched_lt old.rows new.rows; screen = screen_valid _ new }

-- ---- one call

pub change_refused : (c : Call) (l : List ℕ) → is_refusal (changing c l).number ≡ true → (changing c l).rec ≡ l
change_refused c l r = ((changing_answers c l).kept (refusal_from _ r)).0

pub record Changed (c : Call) (t : State) : Type 0 where
  pub is_in_range : in_range c t.screen ≡ true
  pub left : (changing c (state_bytes t)).rec ≡ state_bytes (step c t)
  pub facts : StateFacts (step c t)

pub change_accepted : (c : Call) (t : State) → StateFacts t → is_refusal (changing c (state_bytes t)).number ≡ false → Changed c t
unfolding read_state
change_accepted c t f r =
    let h = is_accepted _ r in
    let g = going c (state_bytes t) (change_none c (state_bytes t) h) in
    let back = state_back t f in
    let range : in_range c t.screen ≡ true = ap (λ (x : State). in_range c x.screen) (sym back) ∙ g.is_in_range in
    let serial : t.stamp.pair.serial ≢ LAST-SERIAL = λ q. g.serial (ap (λ (p : Pair). p.serial) (pair_back t f) ∙ q) in
    record {
      is_in_range = range;
      left = ap (λ (o : Outcome). o.rec) ((changing_answers c (state_bytes t)).done h) ∙ ap (λ (x : State). state_bytes (step c x)) back;
      facts = state_step c t f range (omega (arith, f));
    }

-- ---- a call on a valid record leaves a valid record

pub state_of : (l : List ℕ) → Valid l → every is_byte l ≡ true → StateFacts (read_state l)
unfolding read_state stamp_of pair_of
state_of l v b =
    record { pair = pair_fits l PAIR b (omega (arith, v.size)); touched = v.touched; screen = screen_valid _ v.screen }

-- an accepted one leaves the bytes of what the rules say
pub record Stepped (c : Call) (l : List ℕ) : Type 0 where
  pub left : (changing c l).rec ≡ state_bytes (step c (read_state l))
  pub facts : StateFacts (step c (read_state l))

stepped : (c : Call) (l : List ℕ) → every is_byte l ≡ true → ValidRecord l → is_refusal (changing c l).number ≡ false → Stepped c l
stepped c l b v e =
    let w = conditions_record l v in
    let back = bytes_back l w b in
    let p = change_accepted c (read_state l) (state_of l w b) (ap (λ (x : List ℕ). is_refusal (changing c x).number) back ∙ e) in
    record { left = ap (λ (x : List ℕ). (changing c x).rec) (sym back) ∙ p.left; facts = p.facts }

pub valid_kept : (c : Call) (l : List ℕ) → every is_byte l ≡ true → ValidRecord l → ValidRecord (changing c l).rec
valid_kept c l b v = go (is_refusal (changing c l).number) refl
  where
    go : (r : Bool) → is_refusal (changing c l).number ≡ r → ValidRecord (changing c l).rec
    go true e = subst ValidRecord (sym (change_refused c l e)) v
    go false e =
        let p = stepped c l b v e in
        subst ValidRecord (sym p.left) (record_facts _ (state_valid _ p.facts))

-- and what the rules give is read from it
state_left_is : (c : Call) (l : List ℕ) → every is_byte l ≡ true → ValidRecord l → is_refusal (changing c l).number ≡ false
    → read_state (changing c l).rec ≡ step c (read_state l)
state_left_is c l b v e = let p = stepped c l b v e in ap read_state p.left ∙ state_back _ p.facts

-- the next serial of the same sitting
pub pair_kept : (c : Call) (l : List ℕ) → every is_byte l ≡ true → ValidRecord l → is_refusal (changing c l).number ≡ false
    → pair_of (changing c l).rec ≡ record { sitting = (pair_of l).sitting; serial = (pair_of l).serial + 1 }
unfolding step next_pair read_state stamp_of
pair_kept c l b v e = ap (λ (x : State). x.stamp.pair) (state_left_is c l b v e)

-- the screen
pub screen_left_is : (c : Call) (l : List ℕ) → every is_byte l ≡ true → ValidRecord l → is_refusal (changing c l).number ≡ false
    → screen_of (changing c l).rec ≡ after_call c (screen_of l)
unfolding step read_state
screen_left_is c l b v e = ap (λ (x : State). x.screen) (state_left_is c l b v e)

-- and the rows that differ
pub touched_left_is : (c : Call) (l : List ℕ) → every is_byte l ≡ true → ValidRecord l → is_refusal (changing c l).number ≡ false
    → touched_of (changing c l).rec ≡ touched_rows (screen_of l).rows (after_call c (screen_of l)).rows
unfolding step read_state stamp_of
touched_left_is c l b v e = ap (λ (x : State). x.stamp.touched) (state_left_is c l b v e)

-- ---- accepted calls, from any state

pub steps_serial : (ds : List Call) (t : State) → (steps ds t).stamp.pair.serial ≡ t.stamp.pair.serial + length ds
unfolding steps step next_pair
steps_serial [] t = omega arith
steps_serial (d ∷ ds) t = omega (arith, steps_serial ds (step d t))

pub steps_sitting : (ds : List Call) (t : State) → (steps ds t).stamp.pair.sitting ≡ t.stamp.pair.sitting
unfolding steps step next_pair
steps_sitting [] t = refl
steps_sitting (d ∷ ds) t = steps_sitting ds (step d t)

pub steps_screen : (ds : List Call) (t : State) → (steps ds t).screen ≡ screen_left t.screen ds
unfolding steps step screen_left
steps_screen [] t = refl
steps_screen (d ∷ ds) t = steps_screen ds (step d t)

-- what the last call has touched is what differs from the screen before it
pub steps_touched : (m : ℕ) (ds : List Call) (t : State) → m < length ds
    → (steps (take (suc m) ds) t).stamp.touched ≡ touched_rows (steps (take m ds) t).screen.rows (steps (take (suc m) ds) t).screen.rows
unfolding steps step
steps_touched m [] t h = absurd (omega arith)
steps_touched zero (d ∷ ds) t h = refl
steps_touched (suc m) (d ∷ ds) t h = steps_touched m ds (step d t) (omega arith)

-- ---- calls, accepted or not, from the record of a state

-- the accepted ones of the first k calls are the first accepted ones
pub accepted_first : (k : ℕ) (cs : List Call) (l : List ℕ) → accepted l (take k cs) ≡ take (length (accepted l (take k cs))) (accepted l cs)
unfolding accepted
accepted_first zero cs l = refl
accepted_first (suc k) [] l = refl
accepted_first (suc k) (c ∷ cs) l = go (is_refusal (changing c l).number) (accepted_first k cs (changing c l).rec)
  where
    go : (b : Bool) → let ds = accepted (changing c l).rec (take k cs) in
        let es = accepted (changing c l).rec cs in
        ds ≡ take (length ds) es
        → (if b then ds else c ∷ ds) ≡ take (length (if b then ds else c ∷ ds)) (if b then es else c ∷ es)
    go true e = e
    go false e = ap (λ (ds : List Call). c ∷ ds) e

pub calls_left : (cs : List Call) (t : State) → StateFacts t
    → record_left (state_bytes t) cs ≡ state_bytes (steps (accepted (state_bytes t) cs) t)
unfolding accepted steps record_left
calls_left [] t f = refl
calls_left (c ∷ cs) t f =
    cases (λ (ds : List Call). record_left (changing c (state_bytes t)).rec cs ≡ state_bytes (steps ds t)) _ _ _
    (λ e. rw (change_refused c (state_bytes t) e) (calls_left cs t f))
    (λ e. let p = change_accepted c t f e in rw p.left (calls_left cs (step c t) p.facts))

pub calls_facts : (m : ℕ) (cs : List Call) (t : State) → StateFacts t → StateFacts (steps (take m (accepted (state_bytes t) cs)) t)
unfolding accepted steps
calls_facts zero cs t f = f
calls_facts (suc m) [] t f = f
calls_facts (suc m) (c ∷ cs) t f =
    cases (λ (ds : List Call). StateFacts (steps (take (suc m) ds) t)) _ _ _
    (λ e. rw (change_refused c (state_bytes t) e) (calls_facts (suc m) cs t f))
    (λ e. let p = change_accepted c t f e in rw p.left (calls_facts m cs (step c t) p.facts))

pub new_facts : (w sitting : ℕ) → sitting < SERIALS → StateFacts (new_state w sitting)
unfolding new_state
new_facts w sitting h = record { pair = record { sitting = h; serial = omega arith }; touched = omega arith; screen = screen_valid _ (new_screen_facts w) }

-- ---- calls that are all accepted

accepted_fewer : (cs : List Call) (l : List ℕ) → length (accepted l cs) ≤ length cs
unfolding accepted
accepted_fewer [] l = omega arith
accepted_fewer (c ∷ cs) l =
    let ih = accepted_fewer cs (changing c l).rec in
    either (λ (ds : List Call). length ds ≤ length (c ∷ cs)) (is_refusal (changing c l).number) _ _ (omega arith) (omega arith)

-- the first is, and so are the others
pub all_accepted : (c : Call) (cs : List Call) (l : List ℕ) → accepted l (c ∷ cs) ≡ c ∷ cs
    → (is_refusal (changing c l).number ≡ false) × (accepted (changing c l).rec cs ≡ cs)
unfolding accepted
all_accepted c cs l e = go (is_refusal (changing c l).number) (accepted (changing c l).rec cs) (accepted_fewer cs (changing c l).rec) e
  where
    go : (r : Bool) (ds : List Call) → length ds ≤ length cs → (if r then ds else c ∷ ds) ≡ c ∷ cs → (r ≡ false) × (ds ≡ cs)
    go true ds h q = absurd (let n = ap length q in omega arith)
    go false ds h q = (refl, ap (drop 1) q)
