-- `arrive`: what an arrival answers and leaves, in each of its cases.
-- Assumes nothing.
use Prim.Native.Nat.{ℕ, zero, suc, ◌-◌, ◌<◌}
use mathlib.Core.Path.{◌≡◌, refl, sym, ap, ap₂, ◌∙◌, subst}
use mathlib.Core.Bool.{Bool, true, false, not, ◌&&◌}
use mathlib.Core.List.{List, [], ◌∷◌, ◌++◌}
use native.Mathlib.Omega.{arith}
use lib.Dec.{eqb}
use lib.ListN.{length, get_or, take, drop}
use mir.Val.{bool_byte}
use borrow.Author.Tests.{eq-eqb, ne_eqb, lt-ltb}
use Rattle.std.specs.Prelude.{if◌then◌else◌, SomeIff, IsTrue, Option, None, Some, Result, Err}
use Rattle.std.specs.Option.{ok_or}
use Rattle.std.specs.Ordering.{ord_max}
use Rattle.octets.specs.declared.answer.Refusal.{Refusal}
use Rattle.octets.specs.declared.answer.Refusal.TheVariants.{BrokenReport}
use Rattle.octets.specs.Answer.{refused, number_of, Writes}
use Rattle.octets.specs.Refusals.{order, place_in, first_of}
use Rattle.octets.specs.Test.{every, is_byte}
use Rattle.octets.proofs.Bools.{and_both, every_drop}
use Rattle.octets.proofs.Found.{ordered}
use Rattle.grid.specs.Layout.{SIZE}
use Rattle.grid.specs.Pair.{pair_at}
use Rattle.grid.specs.declared.pair.Pair.{Pair}
use Rattle.grid.specs.contracts.pair.PairOrd.TheImpl.{cmp-value}
use Rattle.grid.specs.Record.{head_of, pair_of, stamp_of, read_state, state_bytes}
use Rattle.grid.specs.Conditions.{ValidRecord}
use Rattle.grid.proofs.Record.{heads_eq}
use Rattle.grid.proofs.Bytes.{bytes_back}
use Rattle.grid.proofs.Conditions.{conditions_record}
use Rattle.report.specs.Layout.{ALL-ROWS}
use Rattle.report.specs.declared.front.Front.{Front}
use Rattle.report.specs.Report.{read_front, read_report, reportb}
use Rattle.mirror.specs.Layout.{MIRROR-SIZE, NEWEST, RECORD}
use Rattle.mirror.specs.Mirror.Arrived.{Refused, Noted, Applied}
use Rattle.mirror.specs.Order.{same_pair, latest}
use Rattle.mirror.specs.Mirror.{due_at, due, width_without_rows, shown, noted, applied, mirror_front, mirror_bytes, read_mirror, mirrorb, level_of, leaving, arrival_tests, Arrived, arrived, arrived_outcome, arrival}
use Rattle.mirror.specs.Parts.{Hears}
use Rattle.mirror.proofs.OrderLaws.{max_is}
use Rattle.mirror.proofs.MirrorLaws.{part_back}
use Rattle.mirror.proofs.Conditions.{mirror_facts}

-- ---- a pair heard of: s is the pair shown, a the newest before, n the newest then, t whether it is the one shown

level_is : (p q : Pair) → bool_byte (eqb p.sitting q.sitting && eqb p.serial q.serial) ≡ level_of p q
unfolding level_of same_pair
level_is p q = go (eqb p.sitting q.sitting && eqb p.serial q.serial)
  where
    go : (b : Bool) → bool_byte b ≡ (if b then 1 else 0)
    go true = refl
    go false = refl

pub heard_done : (p s : Pair) (l m : List ℕ) (k : ℕ) (a n : Pair) (t : Bool) → a ≡ pair_at l NEWEST → n ≡ ord_max cmp-value.it a p
    → m ≡ mirror_front n ++ drop RECORD l → t ≡ (eqb s.sitting n.sitting && eqb s.serial n.serial) → k ≡ bool_byte t → Hears p s l m k
heard_done p s l m k a n t ea en em et ek =
    let newest : n ≡ latest (pair_at l NEWEST) p = en ∙ max_is a p ∙ ap (λ (x : Pair). latest x p) ea in
    record {
      left = em ∙ ap (λ (x : Pair). mirror_front x ++ drop RECORD l) newest;
      level = ek ∙ ap bool_byte et ∙ level_is s n ∙ ap (level_of s) newest;
    }

-- ---- a report that is noted: the record stays as it is, since a slice holds bytes

pub all_bytes : (l : List ℕ) → ((i : ℕ) → get_or l i 0 < 256) → every is_byte l ≡ true
unfolding every is_byte
all_bytes [] f = refl
all_bytes (x ∷ l) f = and_both _ _ (lt-ltb x 256 (f zero)) (all_bytes l (λ i. f (suc i)))

pub record_kept : (l : List ℕ) → ValidRecord (drop RECORD l) → every is_byte l ≡ true → state_bytes (read_state (drop RECORD l)) ≡ drop RECORD l
record_kept l v q = bytes_back (drop RECORD l) (conditions_record _ v) (every_drop is_byte RECORD l q)

-- ---- each case

err_is : (e d : Refusal) → ◌≡◌ {A = Result Front Refusal} (Err e) (Err d) → e ≡ d
err_is e d is = cc

not_so : (t : Bool) → (t ≡ true → ⊥) → t ≡ false
not_so true n = absurd (n refl)
not_so false n = refl

-- the newest pair stands before the record
newest_kept : (l ys : List ℕ) → length l ≡ MIRROR-SIZE → pair_at (take (length l - SIZE) l ++ ys) NEWEST ≡ pair_at l NEWEST
unfolding pair_at
newest_kept l ys len =
    let n : length l - SIZE ≡ RECORD = omega arith in
    rw n (subst (λ (z : List ℕ). pair_at (take RECORD z ++ ys) NEWEST ≡ pair_at z NEWEST) (heads_eq RECORD 0 l (omega arith)) refl)

module _ (l b : List ℕ) where
  pub arrival_ordered : ordered 0 (arrival_tests l b) ≡ true
  unfolding arrival_tests ordered place_in order
  arrival_ordered = refl

  outcome : (a : Arrived) → arrived l b ≡ a → (n : ℕ) (m : List ℕ) → Writes (arrived_outcome a l b) n m → Writes (arrival l b) n m
  unfolding arrival
  outcome a e n m w = subst (λ (x : Arrived). Writes (arrived_outcome x l b) n m) (sym e) w

  refused_is : (k : ℕ) → arrived l b ≡ Refused k → Writes (arrival l b) (refused k) l
  unfolding arrived_outcome
  refused_is k e = outcome (Refused k) e (refused k) l (record { number = refl; left = refl })

  pub size_refused : (length l ≡ MIRROR-SIZE → ⊥) → Writes (arrival l b) (refused 1) l
  unfolding arrived arrival_tests first_of
  size_refused ne = refused_is 1 (rw (ne_eqb (length l) MIRROR-SIZE ne))

  module _ (len : length l ≡ MIRROR-SIZE) where
    pub mirror_refused : false ≡ mirrorb l → Writes (arrival l b) (refused 2) l
    unfolding arrived arrival_tests first_of
    mirror_refused e = refused_is 2 (rw (eq-eqb (length l) MIRROR-SIZE len, sym e))

    module _ (p : true ≡ mirrorb l) where
      -- o is the front that the test hands back, if it does, and e why the arrival is then refused
      pub report_refused : (o : Option Front) → SomeIff o (IsTrue (reportb b)) (read_front b) → (e : Refusal) → Err e ≡ ok_or o BrokenReport
          → Writes (arrival l b) (refused (number_of e)) l
      unfolding arrived arrival_tests first_of
      report_refused None n e is =
          let five : number_of e ≡ 5 = ap number_of (err_is e BrokenReport is) in
          rw five (refused_is 5 (rw (eq-eqb (length l) MIRROR-SIZE len, sym p, not_so (reportb b) n)))
      report_refused (Some f) n e is = absurd (cc)

      -- f is the front of the report, s the pair shown, d whether the report is due, w whether it changes the width without all rows
      module _ (q : reportb b ≡ true) (f : Front) (ef : f ≡ read_front b) (s : Pair) (es : s ≡ pair_of (drop RECORD l)) (d : Bool) (id : d ≡ due_at f.kind f.pair s) where
        due_is : d ≡ due (read_report b) (read_mirror l)
        unfolding due read_report read_mirror read_state stamp_of
        due_is = id ∙ ap₂ (λ (g : Front) (i : Pair). due_at g.kind g.pair i) ef es

        pub noted_left : d ≡ false → every is_byte l ≡ true → (n : ℕ) (m : List ℕ) → Hears f.pair s l m n → Writes (arrival l b) n m
        noted_left e bytes n m h =
            outcome Noted (unfold arrived arrival_tests first_of in rw (eq-eqb (length l) MIRROR-SIZE len, sym p, q, sym due_is ∙ e)) n m
            (unfold arrived_outcome leaving noted read_report read_front read_mirror read_state stamp_of mirror_bytes in record {
              number = h.level ∙ ap₂ (λ (i x : Pair). level_of i (latest (pair_at l NEWEST) x)) es pair_is;
              left =
                  h.left
                  ∙ ap₂ (λ (x : Pair) (z : List ℕ). mirror_front (latest (pair_at l NEWEST) x) ++ z) pair_is
                  (sym (record_kept l (mirror_facts l (sym p)).record_valid bytes));
            })
          where
            pair_is : f.pair ≡ (read_front b).pair
            pair_is = ap (λ (g : Front). g.pair) ef

        module _ (now : d ≡ true) (w : Bool) (iw : w ≡ (not (eqb f.head.width (head_of (drop RECORD l)).width) && not (eqb f.mask ALL-ROWS))) where
          wide_is : w ≡ width_without_rows (read_report b) (read_mirror l)
          unfolding width_without_rows read_report read_mirror read_state
          wide_is = iw ∙ ap (λ (g : Front). not (eqb g.head.width (head_of (drop RECORD l)).width) && not (eqb g.mask ALL-ROWS)) ef

          pub wide_refused : w ≡ true → Writes (arrival l b) (refused 6) l
          unfolding arrived arrival_tests first_of
          wide_refused e = refused_is 6 (rw (eq-eqb (length l) MIRROR-SIZE len, sym p, q, sym due_is ∙ now, sym wide_is ∙ e))

          -- k is the part that is lent to be written, and ys what it comes back as
          pub applied_left : w ≡ false → (k ys m : List ℕ) (n : ℕ) → k ≡ drop (length l - SIZE) l → ys ≡ state_bytes (shown (read_report b) (read_state k))
              → Hears f.pair f.pair (take (length l - SIZE) l ++ ys) m n → Writes (arrival l b) n m
          applied_left e k ys m n ek ey h =
              outcome Applied (unfold arrived arrival_tests first_of in rw (eq-eqb (length l) MIRROR-SIZE len, sym p, q, sym due_is ∙ now, sym wide_is ∙ e)) n m
              (unfold arrived_outcome leaving applied shown read_report read_front read_mirror mirror_bytes in record {
                number = h.level ∙ ap₂ level_of (ap (λ (g : Front). g.pair) ef) newest;
                left = h.left ∙ ap₂ (λ (x : Pair) (z : List ℕ). mirror_front x ++ z) newest back;
              })
            where
              whole : List ℕ
              whole = take (length l - SIZE) l ++ ys

              part : k ≡ drop RECORD l
              part =
                  let a : length l - SIZE ≡ RECORD = omega arith in
                  ek ∙ ap (λ (i : ℕ). drop i l) a

              back : drop RECORD whole ≡ state_bytes (shown (read_report b) (read_state (drop RECORD l)))
              back = part_back l ys len ∙ ey ∙ ap (λ (z : List ℕ). state_bytes (shown (read_report b) (read_state z))) part

              newest : latest (pair_at whole NEWEST) f.pair ≡ latest (pair_at l NEWEST) (read_front b).pair
              newest = ap₂ latest (newest_kept l ys len) (ap (λ (g : Front). g.pair) ef)
