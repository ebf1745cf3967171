-- Demand 3, and what follows for a restarted terminal: read off the bytes of the mirror that is held, and off the count.
-- Assumes nothing.
use Prim.Native.Nat.{ℕ, ◌≤◌}
use mathlib.Core.Path.{◌≡◌, refl, sym, ap, ap₂, ◌∙◌, subst}
use mathlib.Core.List.{List, [], ◌∷◌, ◌++◌, foldl, foldl-append, append-nil}
use mathlib.Core.Logic.{inl, inr}
use native.Mathlib.Omega.{arith}
use lib.ListN.{length, drop}
use Rattle.std.specs.Prelude.{if◌then◌else◌}
use Rattle.octets.specs.Answer.{Written, is_refusal}
use Rattle.grid.specs.Pair.{next_pair}
use Rattle.grid.specs.declared.pair.Pair.{Pair}
use Rattle.report.specs.Layout.{LONGEST}
use Rattle.mirror.specs.Layout.{RECORD}
use Rattle.report.specs.declared.kind.Kind.{Kind}
use Rattle.report.specs.declared.kind.Kind.TheVariants.{Full}
use Rattle.mirror.specs.Mirror.{level_of, leaving, arrival}
use Rattle.mirror.specs.Order.{same_pair}
use Rattle.mirror.specs.Refusals.{AtMost}
use Rattle.mirror.specs.Count.{is_later, Heard, heard_in, Count, is_level, counted, tally}
use Rattle.mirror.specs.Demand3.{count, Paper, sitting, Arrival, made, report, mirror_after, May, Line, heard, shown, newest, newest_in, shown_in, latest_in, Shows, Takes, Demand3, Followed}
use Rattle.mirror.proofs.RoundTrips.{newest_back, shown_back, record_back}
use Rattle.mirror.proofs.Later.{most, most_trans}
use Rattle.mirror.proofs.Counts.{counted_full, counted_next, counted_level, fold_on, tally_latest}
use Rattle.mirror.proofs.Papers.{numbered_most}
use Rattle.mirror.proofs.Arrivals.{leaving_accepted, mirror_of}
use Rattle.mirror.proofs.Made.{said, report_says}
use Rattle.mirror.proofs.Held.{heard_append, holds_facts, Held, count_then, count_made, arrival_made, held_made, held_along}

module _ (paper : Paper) where
  shows : (seen : List Arrival) → Held paper seen → Shows paper seen
  unfolding mirror_of
  shows seen p =
      let f = holds_facts paper _ _ p in
      let newest_is : newest_in (mirror_after paper seen) ≡ newest paper seen = ap newest_in p.is ∙ newest_back _ f in
      let shown_is : shown_in (mirror_after paper seen) ≡ shown paper seen = ap shown_in p.is ∙ shown_back _ f in
      let latest : newest paper seen ≡ latest_in paper seen = tally_latest paper.first.number (heard paper seen) in
      record {
        newest_is = newest_is;
        shown_is = shown_is;
        sitting_is = p.shown_known.is;
        screen = ap (drop RECORD) p.is ∙ record_back _ f;
        level = (λ e. sym shown_is ∙ e ∙ newest_is ∙ latest, λ e. shown_is ∙ e ∙ sym latest ∙ sym newest_is);
      }

  answer_is : (t : Count) → (leaving (mirror_of paper t)).number
      ≡ (if is_level t then 1 else 0)
  unfolding leaving level_of mirror_of same_pair is_level
  answer_is t = refl

  takes : (before : List Arrival) (i : ℕ) (kind : Kind) (k : ℕ) (out : List ℕ) → LONGEST ≤ length out → Held paper before
      → Takes paper before (before ++ made i kind k out ∷ []) i kind k (report paper i kind k out) (arrival (mirror_after paper before) (report paper i kind k out)).number
  unfolding count_then next_pair
  takes before i kind k out room p =
      let now = before ++ made i kind k out ∷ [] in
      let said = said paper i kind k out room in
      let says = report_says paper i kind k out room in
      let pair : (heard_in (report paper i kind k out)).pair ≡ said.pair = ap (λ (h : Heard). h.pair) says in
      let answer = ap (λ (o : Written). o.number) (arrival_made paper before p i kind k out room) in
      let count-is = count_made paper before p i kind k out room in
      let held = shows now (held_made paper before p i kind k out room) in
      let shown_now : shown_in (mirror_after paper now) ≡ (counted (count paper before) said).shown = held.shown_is ∙ ap (λ (t : Count). t.shown) count-is in
      let newest_now : newest_in (mirror_after paper now) ≡ (counted (count paper before) said).newest = held.newest_is ∙ ap (λ (t : Count). t.newest) count-is in
      let latest = tally_latest paper.first.number (heard paper before) in
      record {
        says = says;
        not_refused = ap is_refusal answer ∙ leaving_accepted _;
        answers = answer ∙ answer_is _ ∙ ap (λ (t : Count). if is_level t then 1 else 0) (sym count-is);
        next = λ is e. shown_now ∙ counted_next _ said is (sym pair ∙ e);
        levels = λ is late.
            shown_now
            ∙ counted_level _ said is p.behind (most _ _ (ap₂ is_later latest (sym pair) ∙ late))
            ∙ sym newest_now;
      }

pub demand_3 : Demand3
unfolding Line May
demand_3 paper line fair =
    record {
      shows = λ seen later e. shows paper seen (held_along paper line fair seen later e);
      takes = λ before later i kind k out e.
          takes paper before i kind k out (fair before later (made i kind k out) e) (held_along paper line fair before (made i kind k out ∷ later) e);
    }

-- ---- the sitting with the largest number

sitting_most : (p q : Pair) → AtMost p q → p.sitting ≤ q.sitting
unfolding AtMost
sitting_most p q (inl h) = omega arith
sitting_most p q (inr (e, h)) = omega arith

pub followed : Followed
unfolding Line May heard tally
followed paper i largest before after k out fair =
    let line = before ++ made i Full k out ∷ after in
    let number = paper.first.number in
    let whole = held_along paper line fair line [] (sym (append-nil line)) in
    let room : LONGEST ≤ length out = fair before after (made i Full k out) refl in
    let says = report_says paper i Full k out room in
    let taken = counted (tally number (heard paper before)) (heard_in (report paper i Full k out)) in
    let counts : shown paper line ≡ (foldl counted taken (heard paper after)).shown =
    ap (λ (hs : List Heard). (tally number hs).shown) (heard_append paper before (made i Full k out ∷ after))
    ∙ ap (λ (t : Count). t.shown) (foldl-append counted _ (heard paper before) (heard paper (made i Full k out ∷ after))) in
    let up : AtMost (heard_in (report paper i Full k out)).pair (shown paper line) =
    subst (AtMost (heard_in (report paper i Full k out)).pair) (sym counts)
    (most_trans _ _ _ (counted_full _ _ (ap (λ (h : Heard). h.kind) says)) (fold_on (heard paper after) taken)) in
    let low : (sitting paper i).number ≤ (shown paper line).sitting =
    subst (λ (p : Pair). p.sitting ≤ (shown paper line).sitting) (ap (λ (h : Heard). h.pair) says) (sitting_most _ _ up) in
    let high : (shown paper line).sitting ≤ (sitting paper i).number =
    subst (λ (x : ℕ). x ≤ (sitting paper i).number) whole.shown_known.is (numbered_most paper _ largest (shown paper line).sitting) in
    ap (λ (p : Pair). p.sitting) (shows paper line whole).shown_is ∙ omega arith
