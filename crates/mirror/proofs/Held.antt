-- All along a line of arrivals the mirror is that of the count: at the start (`held_start`) and after each arrival (`held_step`).
-- Assumes nothing.
use Prim.Native.Nat.{ℕ, ◌≤◌}
use mathlib.Core.Path.{◌≡◌, refl, sym, ap, ◌∙◌, subst}
use mathlib.Core.Bool.{true}
use mathlib.Core.List.{List, [], ◌∷◌, ◌++◌, foldl-append, append-nil}
use native.Mathlib.Omega.{arith}
use lib.ListN.{length}
use lib.Seq.{append_snoc}
use borrow.Author.Tests.{eq-eqb}
use Rattle.octets.specs.Answer.{Written, is_refusal}
use Rattle.grid.specs.declared.pair.Pair.{Pair}
use Rattle.grid.specs.Screen.{new_state}
use Rattle.grid.specs.Facts.{PairFits}
use Rattle.editor.specs.Lists.{screen_left}
use Rattle.octets.specs.Refusals.{first_of}
use Rattle.std.proofs.lemmas.Bool.{cond-true as pick}
use Rattle.report.specs.Layout.{LONGEST}
use Rattle.mirror.specs.Layout.{MIRROR-SIZE}
use Rattle.report.specs.declared.kind.Kind.{Kind}
use Rattle.mirror.specs.Mirror.{Mirror, mirror_bytes, new_mirror, creating_mirror, leaving, arrival}
use Rattle.mirror.specs.Refusals.{AtMost}
use Rattle.mirror.specs.Count.{Heard, heard_in, Count, counted, start, tally}
use Rattle.mirror.specs.Demand3.{count, Sitting, screen_after, in_place, Paper, sitting, numbered, Arrival, made, slice, report, arriving, mirror_after, May, Line, heard}
use Rattle.mirror.proofs.RoundTrips.{MirrorFacts}
use Rattle.octets.proofs.Found.{unless_none}
use Rattle.mirror.proofs.Later.{most_refl}
use Rattle.mirror.proofs.Counts.{counted_most, counted_are}
use Rattle.mirror.proofs.Papers.{numbered_is}
use Rattle.mirror.proofs.Runs.{calls, valid_at, calls_few, accepted_le}
use Rattle.mirror.proofs.Arrivals.{arrival_keeps, pair_after, mirror_of, arrival_counted}
use Rattle.mirror.proofs.Made.{said, report_is, report_says}

-- ---- one arrival more

tally_one : (number : ℕ) (hs : List Heard) (h : Heard) → tally number (hs ++ h ∷ []) ≡ counted (tally number hs) h
unfolding tally
tally_one number hs h = foldl-append counted _ hs (h ∷ [])

module _ (paper : Paper) where
  pub heard_append : (seen more : List Arrival) → heard paper (seen ++ more) ≡ heard paper seen ++ heard paper more
  unfolding heard
  heard_append [] more = refl
  heard_append (made i kind k out ∷ seen) more = ap (λ (hs : List Heard). heard_in (report paper i kind k out) ∷ hs) (heard_append seen more)
  heard_append (slice b ∷ seen) more = heard_append seen more

  heard_slice : (seen : List Arrival) (b : List ℕ) → heard paper (seen ++ slice b ∷ []) ≡ heard paper seen
  unfolding heard
  heard_slice seen b = heard_append seen (slice b ∷ []) ∙ append-nil (heard paper seen)

  mirror_one : (seen : List Arrival) (a : Arrival) → mirror_after paper (seen ++ a ∷ []) ≡ (arrival (mirror_after paper seen) (arriving paper a)).bytes
  unfolding mirror_after
  mirror_one seen a = foldl-append _ _ seen (a ∷ [])

  -- what holds at the start and is kept by each arrival holds all along
  module _ (P : List Arrival → Type 0) (begin : P []) (step : (seen : List Arrival) (a : Arrival) → May paper seen a → P seen → P (seen ++ a ∷ []))
      (line : List Arrival) (fair : Line paper line) where
    onwards : (seen more later : List Arrival) → line ≡ seen ++ (more ++ later) → P seen → P (seen ++ more)
    unfolding Line
    onwards seen [] later e p = subst P (sym (append-nil seen)) p
    onwards seen (a ∷ more) later e p =
        subst P (append_snoc seen a more)
        (onwards (seen ++ a ∷ []) more later (e ∙ sym (append_snoc seen a (more ++ later))) (step seen a (fair seen (more ++ later) a e) p))

    along : (seen later : List Arrival) → line ≡ seen ++ later → P seen
    along seen later e = onwards [] seen later e begin

module _ (paper : Paper) where
  -- ---- the mirror is that of the count

  -- a pair of one of the sittings, which four bytes each can hold
  pub record Known (p : Pair) : Type 0 where
    pub fits : PairFits p
    pub is : (numbered paper p.sitting).number ≡ p.sitting

  -- the mirror l is that of the count t
  pub record Holds (l : List ℕ) (t : Count) : Type 0 where
    pub behind : AtMost t.shown t.newest
    pub shown_known : Known t.shown
    pub newest_known : Known t.newest
    pub is : l ≡ mirror_bytes (mirror_of paper t)

  pub holds_facts : (l : List ℕ) (t : Count) → Holds l t → MirrorFacts (mirror_of paper t)
  unfolding mirror_of
  holds_facts l t p =
      record {
        newest = p.newest_known.fits;
        pair = p.shown_known.fits;
        behind = p.behind;
        untouched = refl;
        screen = valid_at (numbered paper t.shown.sitting) t.shown.serial;
      }

  abbrev pub Held : List Arrival → Type 0
  Held seen = Holds (mirror_after paper seen) (count paper seen)

  pair_known : (i m : ℕ) → m ≤ length (calls (sitting paper i)) → Known (pair_after (sitting paper i) m)
  pair_known i m h =
      record {
        fits = record { sitting = (sitting paper i).number_fits; serial = omega (arith, calls_few (sitting paper i)) };
        is = ap (λ (s : Sitting). s.number) (numbered_is paper i);
      }

  held_start : Held []
  unfolding heard tally start mirror_after mirror_of creating_mirror first_of new_mirror new_state screen_after screen_left
  held_start =
      let known : Known (start paper.first.number) = unfold in_place in pair_known 0 0 (omega arith) in
      let first : numbered paper paper.first.number ≡ paper.first = unfold in_place in numbered_is paper 0 in
      record {
        behind = most_refl _;
        shown_known = known;
        newest_known = known;
        is =
            ap (λ (o : Written). o.bytes) (unless_none _ _ _ (pick _ _ _ (eq-eqb (length paper.mirror_buffer) MIRROR-SIZE paper.mirror_size)))
            ∙ ap (λ (s : Sitting). mirror_bytes (mirror_at s)) (sym first);
      }
    where
      -- the new mirror, its screen that of the sitting s before any call
      mirror_at : Sitting → Mirror
      mirror_at s =
          record {
            newest = start paper.first.number;
            state = record { screen = screen_after s 0; stamp = record { pair = start paper.first.number; touched = 0 } };
          }

  held_slice : (seen : List Arrival) (b : List ℕ) → Held seen → is_refusal (arrival (mirror_after paper seen) b).number ≡ true → Held (seen ++ slice b ∷ [])
  unfolding arriving
  held_slice seen b p r =
      let e = mirror_one paper seen (slice b) ∙ arrival_keeps (mirror_after paper seen) b r in
      rw (heard_slice paper seen b, e) p

  module _ (seen : List Arrival) (p : Held seen) (i : ℕ) (kind : Kind) (k : ℕ) (out : List ℕ) (room : LONGEST ≤ length out) where
    unfoldable pub count_then : Count
    count_then = counted (count paper seen) (said paper i kind k out room)

    pub count_made : count paper (seen ++ made i kind k out ∷ []) ≡ count_then
    unfolding count_then heard
    count_made =
        ap (tally paper.first.number) (heard_append paper seen (made i kind k out ∷ [])) ∙ tally_one paper.first.number (heard paper seen) _
        ∙ ap (counted (count paper seen)) (report_says paper i kind k out room)

    pub arrival_made : arrival (mirror_after paper seen) (report paper i kind k out) ≡ leaving (mirror_of paper count_then)
    unfolding count_then
    arrival_made =
        ap (λ (l : List ℕ). arrival l (report paper i kind k out)) p.is
        ∙ ap (arrival (mirror_bytes (mirror_of paper (count paper seen)))) (report_is paper i kind k out room)
        ∙ arrival_counted paper (sitting paper i) (numbered_is paper i) kind _ (accepted_le (sitting paper i) k) (count paper seen) (holds_facts _ _ p)

    mirror_made : mirror_after paper (seen ++ made i kind k out ∷ []) ≡ mirror_bytes (mirror_of paper count_then)
    unfolding arriving leaving
    mirror_made = mirror_one paper seen (made i kind k out) ∙ ap (λ (o : Written). o.bytes) arrival_made

    pub held_made : Held (seen ++ made i kind k out ∷ [])
    unfolding count_then
    held_made =
        let known = counted_are Known (count paper seen) (said paper i kind k out room) p.shown_known p.newest_known (pair_known i _ (accepted_le (sitting paper i) k)) in
        rw count_made
        (record {
          behind = counted_most _ _ p.behind;
          shown_known = known.0;
          newest_known = known.1;
          is = mirror_made;
        })

  held_step : (seen : List Arrival) (a : Arrival) → May paper seen a → Held seen → Held (seen ++ a ∷ [])
  unfolding May
  held_step seen (made i kind k out) room p = held_made seen p i kind k out room
  held_step seen (slice b) r p = held_slice seen b p r

-- all along a line
pub held_along : (paper : Paper) (line : List Arrival) → Line paper line → (seen later : List Arrival) → line ≡ seen ++ later → Held paper seen
held_along paper line fair = along paper (Held paper) (held_start paper) (held_step paper) line fair
