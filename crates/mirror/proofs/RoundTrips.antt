-- The bytes of a mirror are read back as that mirror, and pass the test; and the other way round.
-- Assumes nothing.
use Prim.Native.Nat.{ℕ, ◌/◌, ◌%◌}
use mathlib.Core.Path.{◌≡◌, refl, sym, ap, ap₂, ◌∙◌}
use mathlib.Core.Bool.{true, not}
use mathlib.Core.List.{List, [], ◌∷◌, ◌++◌}
use native.Mathlib.Omega.{arith}
use lib.ListN.{length, get_or, drop}
use Rattle.grid.specs.Screen.{valid_screen}
use Rattle.octets.specs.Test.{every, is_byte}
use Rattle.grid.specs.Record.{state_bytes, read_state, pair_of, touched_of, stamp_of, validb}
use Rattle.grid.specs.Pair.{pair_at}
use Rattle.grid.specs.Facts.{PairFits, StateFacts}
use Rattle.octets.proofs.Bools.{tests}
use Rattle.grid.proofs.PairLaws.{pair_whole, pair_again}
use Rattle.grid.proofs.Bytes.{state_back, length_state, pair_back, state_valid}
use Rattle.mirror.specs.Layout.{MIRROR-SIZE, MIRROR-VERSION, NEWEST, RECORD}
use Rattle.grid.specs.declared.pair.Pair.{Pair}
use Rattle.mirror.specs.Order.{later}
use Rattle.mirror.specs.Mirror.{Mirror, mirror_front, mirror_bytes, read_mirror, mirror_frontb, shownb, mirrorb}
use Rattle.grid.proofs.Record.{heads_eq}
use Rattle.mirror.specs.Refusals.{AtMost}
use Rattle.mirror.proofs.OrderLaws.{not_later}
use Rattle.mirror.proofs.Conditions.{mirror_facts}
use Rattle.mirror.proofs.ArriveLeft.{record_kept}

pub record MirrorFacts (μ : Mirror) : Type 0 where
  pub newest : PairFits μ.newest
  pub pair : PairFits μ.state.stamp.pair
  pub behind : AtMost μ.state.stamp.pair μ.newest
  pub untouched : μ.state.stamp.touched ≡ 0
  pub screen : valid_screen μ.state.screen ≡ true

module _ (μ : Mirror) (v : MirrorFacts μ) where
  pub shown_facts : StateFacts μ.state
  shown_facts = record { pair = v.pair; touched = omega arith; screen = v.screen }

  pub newest_back : pair_at (mirror_bytes μ) NEWEST ≡ μ.newest
  unfolding mirror_bytes mirror_front pair_at
  newest_back = pair_whole μ.newest v.newest

  pub record_back : drop RECORD (mirror_bytes μ) ≡ state_bytes μ.state
  unfolding mirror_bytes mirror_front
  record_back = refl

  pub shown_back : pair_of (drop RECORD (mirror_bytes μ)) ≡ μ.state.stamp.pair
  shown_back = ap pair_of record_back ∙ pair_back μ.state shown_facts

  pub mirror_back : read_mirror (mirror_bytes μ) ≡ μ
  unfolding read_mirror
  mirror_back = λ i. record { newest = newest_back i; state = (ap read_state record_back ∙ state_back μ.state shown_facts) i }

  pub length_mirror : length (mirror_bytes μ) ≡ MIRROR-SIZE
  unfolding mirror_bytes mirror_front
  length_mirror = omega (arith, length_state μ.state shown_facts)

  pub mirror_passes : mirrorb (mirror_bytes μ) ≡ true
  unfolding mirrorb mirror_frontb shownb
  mirror_passes =
      let l = mirror_bytes μ in
      let n = length_mirror in
      let a : get_or l 0 0 ≡ MIRROR-SIZE / 256 = unfold mirror_bytes mirror_front in refl in
      let b : get_or l 1 0 ≡ MIRROR-SIZE % 256 = unfold mirror_bytes mirror_front in refl in
      let k : get_or l 2 0 ≡ MIRROR-VERSION = unfold mirror_bytes mirror_front in refl in
      let c : validb (drop RECORD l) ≡ true = ap validb record_back ∙ state_valid μ.state shown_facts in
      let t : touched_of (drop RECORD l) ≡ 0 = unfold read_mirror read_state stamp_of in (ap (λ (x : Mirror). x.state.stamp.touched) mirror_back ∙ v.untouched) in
      let e : not (later (pair_of (drop RECORD l)) (pair_at l NEWEST)) ≡ true = ap₂ (λ (p q : Pair). not (later p q)) shown_back newest_back ∙ ap not (not_later _ _ v.behind) in
      search tests depth 8

-- ---- the other way round

pub mirror_bytes_back : (l : List ℕ) → mirrorb l ≡ true → every is_byte l ≡ true → mirror_bytes (read_mirror l) ≡ l
unfolding mirror_bytes mirror_front read_mirror pair_at
mirror_bytes_back l p q =
    let v = mirror_facts l p in
    let n = pair_again l NEWEST q (omega (arith, v.size)) in
    let r = record_kept l v.record_valid q in
    (λ i. (sym v.length_high i ∷ sym v.length_low i ∷ []) ++ (sym v.version i ∷ []) ++ n i ++ r i) ∙ heads_eq RECORD 0 l (omega (arith, v.size))
