-- One arrival: a report made in a sitting meets a mirror that shows the screen of a count. It is not refused, and the mirror then shows what the count of
-- kinds and pairs says.
-- Assumes nothing.
use Prim.Native.Nat.{ℕ, suc, ◌≤◌, ◌<◌}
use mathlib.Core.Path.{◌≡◌, refl, sym, ap, ap₂, ◌∙◌, subst}
use mathlib.Core.Logic.{◌≢◌}
use mathlib.Core.Bool.{Bool, true, false, not, ◌&&◌, true≢false}
use mathlib.Core.List.{List}
use native.Mathlib.Numerals.{add-one}
use native.Mathlib.Omega.{arith}
use lib.Dec.{eqb}
use lib.ListN.{length}
use borrow.Author.Tests.{eqb-false, eq-eqb, lt-ltb}
use Rattle.std.specs.Prelude.{if◌then◌else◌}
use Rattle.octets.specs.Answer.{refused, is_refusal}
use Rattle.grid.specs.Layout.{MASKS}
use Rattle.grid.specs.Pair.{next_pair}
use Rattle.grid.specs.Screen.{Screen, State, valid_row}
use Rattle.grid.specs.declared.pair.Pair.{Pair}
use Rattle.octets.specs.Refusals.{first_of, all_pass}
use Rattle.std.proofs.lemmas.Bool.{cond-false as skip}
use Rattle.octets.proofs.Bools.{and_both, either}
use Rattle.grid.proofs.Validity.{screen_facts, head_valid}
use Rattle.report.specs.Layout.{ALL-ROWS}
use Rattle.mirror.specs.Layout.{MIRROR-SIZE}
use Rattle.report.specs.declared.kind.Kind.{Kind}
use Rattle.report.specs.declared.kind.Kind.TheVariants.{Step, Full}
use Rattle.report.specs.Kind.{mask_of, mask_fits}
use Rattle.report.specs.Report.{Report, front_of, report_of, report_bytes, read_report}
use Rattle.report.specs.Carried.{bits}
use Rattle.mirror.specs.Mirror.{Mirror, due_at, due, width_without_rows, shown, noted, applied, taken, mirror_bytes, read_mirror, level_of, arrival_tests, Arrived, arrived, leaving, arrived_outcome, arrival}
use Rattle.mirror.specs.Mirror.Arrived.{Refused, Noted, Applied}
use Rattle.mirror.specs.Order.{latest, same_pair}
use Rattle.mirror.specs.Count.{later_of, Count, counted}
use Rattle.mirror.specs.Demand3.{Sitting, screen_after, Paper, numbered}
use Rattle.mirror.proofs.OrderLaws.{same_pair_is}
use Rattle.mirror.proofs.Later.{latest_is}
use Rattle.report.proofs.KindLaws.{mask_small}
use Rattle.report.proofs.Carried.{Covers, merge_carry, every_carry, length_carry}
use Rattle.mirror.proofs.Screens.{touched_all, covers_touched, covers_all}
use Rattle.report.proofs.RoundTrips.{ReportFacts, report_back, report_passes}
use Rattle.mirror.proofs.RoundTrips.{MirrorFacts, mirror_back, length_mirror, mirror_passes}
use Rattle.octets.proofs.Found.{small_accepted, all_passed}
use Rattle.mirror.proofs.Counts.{shown_due}
use Rattle.mirror.proofs.Runs.{calls, state_at, facts_at, screen_at, valid_at, pair_at_is, calls_few, touched_at}

-- ---- any mirror, any slice

pub leaving_accepted : (μ : Mirror) → is_refusal (leaving μ).number ≡ false
unfolding leaving level_of
leaving_accepted μ = small_accepted _ (either (λ (n : ℕ). n ≤ refused 0) (same_pair μ.state.stamp.pair μ.newest) _ _ (omega arith) (omega arith))

-- a refused slice changes nothing
pub arrival_keeps : (l b : List ℕ) → is_refusal (arrival l b).number ≡ true → (arrival l b).bytes ≡ l
unfolding arrival
arrival_keeps l b h = go (arrived l b) h
  where
    go : (a : Arrived) → is_refusal (arrived_outcome a l b).number ≡ true → (arrived_outcome a l b).bytes ≡ l
    go (Refused k) h = unfold arrived_outcome in refl
    go Noted h = absurd (true≢false (sym h ∙ (unfold arrived_outcome in leaving_accepted _)))
    go Applied h = absurd (true≢false (sym h ∙ (unfold arrived_outcome in leaving_accepted _)))

-- its way through the tests: d says that it is due, w that it changes the width without all rows
passed : (d w : Bool) → (d ≡ true → w ≡ false) → not (d && w) ≡ true
passed false w h = refl
passed true w h = rw (h refl)

left : (d : Bool) (l b : List ℕ) → arrived_outcome (if d then Applied else Noted) l b
    ≡ leaving (if d then applied (read_report b) (read_mirror l) else noted (read_report b) (read_mirror l))
unfolding arrived_outcome
left true l b = refl
left false l b = refl

module _ (μ : Mirror) (r : Report) (v : MirrorFacts μ) (f : ReportFacts r) where
  none_refused : (due r μ ≡ true → width_without_rows r μ ≡ false) → first_of (arrival_tests (mirror_bytes μ) (report_bytes r)) ≡ 0
  unfolding arrival_tests all_pass
  none_refused h =
      let p = report_back r f in
      let q = mirror_back μ v in
      let kept : not (due (read_report (report_bytes r)) (read_mirror (mirror_bytes μ)) && width_without_rows (read_report (report_bytes r)) (read_mirror (mirror_bytes μ))) ≡ true =
      ap₂ (λ (x : Report) (y : Mirror). not (due x y && width_without_rows x y)) p q ∙ passed (due r μ) (width_without_rows r μ) h in
      all_passed _
      (and_both _ _ (eq-eqb _ MIRROR-SIZE (length_mirror μ v))
      (and_both _ _ (mirror_passes μ v) (and_both _ _ (report_passes r f) (and_both _ _ kept refl))))

  pub arrival_taken : (due r μ ≡ true → width_without_rows r μ ≡ false) → arrival (mirror_bytes μ) (report_bytes r) ≡ leaving (taken r μ)
  unfolding arrival arrived taken
  arrival_taken h =
      let l = mirror_bytes μ in
      let b = report_bytes r in
      let p = report_back r f in
      let q = mirror_back μ v in
      let none : first_of (arrival_tests l b) ≡ 0 = none_refused h in
      let a : arrived l b ≡ (if due r μ then Applied else Noted) =
      skip _ _ _ (ap not (eq-eqb _ 0 none)) ∙ ap₂ (λ (x : Report) (y : Mirror). if due x y then Applied else Noted) p q in
      ap (λ (x : Arrived). arrived_outcome x l b) a ∙ left (due r μ) l b
      ∙ ap₂ (λ (x : Report) (y : Mirror). leaving (if due r μ then applied x y else noted x y)) p q

-- ---- the reports of a sitting

mask_fits_kind : (kind : Kind) (touched : ℕ) → mask_of kind touched < MASKS → mask_fits kind (mask_of kind touched) ≡ true
unfolding mask_of mask_fits
mask_fits_kind Step touched h = lt-ltb touched MASKS h
mask_fits_kind Full touched h = refl

not_missing : (v w mask : ℕ) → (v ≢ w → mask ≡ ALL-ROWS) → not (eqb v w) && not (eqb mask ALL-ROWS) ≡ false
not_missing v w mask h = go (eqb v w) refl
  where
    go : (b : Bool) → eqb v w ≡ b → not b && not (eqb mask ALL-ROWS) ≡ false
    go true e = refl
    go false e = rw (eq-eqb mask ALL-ROWS (h (eqb-false v w e)))

module _ (s : Sitting) where
  -- its pair after m accepted calls
  abbrev pub pair_after : ℕ → Pair
  pair_after m = record { sitting = s.number; serial = m }

  -- what its record holds then
  unfoldable pub was : ℕ → State
  was m = record { screen = screen_after s m; stamp = record { pair = pair_after m; touched = (state_at s m).stamp.touched } }

  pub state_was : (m : ℕ) → m ≤ length (calls s) → state_at s m ≡ was m
  unfolding was
  state_was m h = λ i. record { screen = screen_at s m i; stamp = record { pair = pair_at_is s m h i; touched = (state_at s m).stamp.touched } }

  mask_lt : (kind : Kind) (m : ℕ) → mask_of kind (state_at s m).stamp.touched < MASKS
  mask_lt kind m = mask_small kind _ (facts_at s m).touched

  -- a report made in the sitting can be read back
  pub made_facts : (kind : Kind) (m : ℕ) → m ≤ length (calls s) → ReportFacts (report_of kind (was m))
  unfolding report_of front_of was
  made_facts kind m h =
      let f = screen_facts (screen_after s m) (valid_at s m) in
      let mask = mask_of kind (state_at s m).stamp.touched in
      record {
        pair = record { sitting = s.number_fits; serial = omega (arith, calls_few s) };
        mask = mask_fits_kind kind _ (mask_lt kind m);
        head = head_valid (screen_after s m).head f.head;
        rows = every_carry (valid_row (screen_after s m).head.width) (bits 25 mask) (screen_after s m).rows f.rows.valid;
        carried = length_carry 25 mask _ f.rows.count (mask_lt kind m);
      }

  -- it carries what differs from the screen shown, and all rows if the width does
  record Carries (kind : Kind) (m : ℕ) (shown : Screen) : Type 0 where
    covers : Covers (bits 25 (mask_of kind (state_at s m).stamp.touched)) shown.rows (screen_after s m).rows
    wide : (screen_after s m).head.width ≢ shown.head.width → mask_of kind (state_at s m).stamp.touched ≡ ALL-ROWS

  step_carries : (m : ℕ) → m < length (calls s) → Carries Step (suc m) (screen_after s m)
  unfolding mask_of
  step_carries m l =
      let t = touched_at s m l in
      let a = valid_at s m in
      let b = valid_at s (suc m) in
      record { covers = rw t (covers_touched _ _ a b); wide = λ d. t ∙ touched_all _ _ a b (λ x. d (sym x)) }

-- ---- in a paper: the sitting s is the one with its number

module _ (paper : Paper) where
  -- the mirror of a count
  unfoldable pub mirror_of : Count → Mirror
  mirror_of t =
      record {
        newest = t.newest;
        state = record { screen = screen_after (numbered paper t.shown.sitting) t.shown.serial; stamp = record { pair = t.shown; touched = 0 } };
      }

  module _ (s : Sitting) (is : numbered paper s.number ≡ s) (kind : Kind) (m : ℕ) (h : m ≤ length (calls s)) where
    -- a report that is due meets a screen that it was made for: a step that of its own sitting, one call before
    due_carries : (kind : Kind) (shown : Pair) → due_at kind (pair_after s m) shown ≡ true
        → Carries s kind m (screen_after (numbered paper shown.sitting) shown.serial)
    unfolding due_at mask_of next_pair
    due_carries Full shown e =
        record { covers = covers_all _ _ (valid_at (numbered paper shown.sitting) shown.serial) (valid_at s m); wide = λ d. refl }
    due_carries Step shown e =
        let next : pair_after s m ≡ next_pair shown = same_pair_is (pair_after s m) (next_pair shown) e in
        let same : numbered paper shown.sitting ≡ s = ap (λ (p : Pair). numbered paper p.sitting) (sym next) ∙ is in
        let one : m ≡ suc shown.serial = ap (λ (p : Pair). p.serial) next ∙ add-one shown.serial in
        subst (λ (x : Sitting). Carries s Step m (screen_after x shown.serial)) (sym same)
        (subst (λ (k : ℕ). Carries s Step k (screen_after s shown.serial)) (sym one) (step_carries s shown.serial (omega arith)))

    r : Report
    r = report_of kind (was s m)

    module _ (t : Count) where
      complete : due r (mirror_of t) ≡ true → width_without_rows r (mirror_of t) ≡ false
      unfolding due width_without_rows r report_of front_of was mirror_of
      complete e = not_missing _ _ _ (due_carries kind t.shown e).wide

      shows : taken r (mirror_of t) ≡ mirror_of (counted t (record { kind = kind; pair = pair_after s m }))
      unfolding taken due applied noted shown r report_of front_of was mirror_of counted
      shows = rw (shown_due kind (pair_after s m) t.shown) (go (due_at kind (pair_after s m) t.shown) refl)
        where
          new : latest t.newest (pair_after s m) ≡ later_of (pair_after s m) t.newest
          new = latest_is t.newest (pair_after s m)

          go : (b : Bool) → due_at kind (pair_after s m) t.shown ≡ b
              → (if b then applied r (mirror_of t) else noted r (mirror_of t))
              ≡ mirror_of (record { shown = if b then pair_after s m else t.shown; newest = later_of (pair_after s m) t.newest })
          go false e = λ i. record { newest = new i; state = (mirror_of t).state }
          go true e =
              (λ i.
              record {
                newest = new i;
                state =
                    record {
                      screen = record { head = (screen_after s m).head; rows = merge_carry (due_carries kind t.shown e).covers i };
                      stamp = record { pair = pair_after s m; touched = 0 };
                    };
              })
              ∙ ap
              (λ (x : Sitting).
              record {
                newest = later_of (pair_after s m) t.newest;
                state = record { screen = screen_after x m; stamp = record { pair = pair_after s m; touched = 0 } };
              })
              (sym is)

      -- the arrival of a report that was made moves the mirror of a count to that of the next count
      pub arrival_counted : MirrorFacts (mirror_of t)
          → arrival (mirror_bytes (mirror_of t)) (report_bytes (report_of kind (was s m)))
          ≡ leaving (mirror_of (counted t (record { kind = kind; pair = pair_after s m })))
      unfolding r
      arrival_counted v = arrival_taken (mirror_of t) r v (made_facts s kind m h) complete ∙ ap leaving shows
