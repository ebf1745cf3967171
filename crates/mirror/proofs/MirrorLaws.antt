-- `mirror`: its test, its front, and a new one. The part of it that is lent as a record stands from index RECORD on.
-- Assumes nothing.
use Prim.Native.Nat.{ℕ, zero, ◌-◌, ◌<◌}
use mathlib.Core.Path.{◌≡◌, refl, ap, ◌∙◌, subst}
use mathlib.Core.List.{List, ◌++◌}
use native.Mathlib.Omega.{arith}
use lib.Dec.{eqb}
use lib.ListN.{length, get_or, take, drop, set}
use lib.Seq.{drop_at, length-take-le}
use borrow.Author.Tests.{eq-eqb, ne_eqb}
use Rattle.std.specs.Array.{IsWholeChunk}
use Rattle.octets.specs.Answer.{refused, unless, Writes}
use Rattle.grid.specs.Layout.{SIZE}
use Rattle.grid.specs.Screen.{new_state}
use Rattle.octets.specs.Part.{write}
use Rattle.grid.specs.Pair.{pair_bytes}
use Rattle.grid.specs.declared.pair.Pair.{Pair}
use Rattle.grid.specs.Record.{state_bytes}
use Rattle.octets.specs.Number.{number2, bytes2}
use Rattle.octets.proofs.NumberLaws.{two_tested}
use Rattle.octets.proofs.PartLaws.{write_none}
use Rattle.grid.proofs.Record.{heads_eq}
use Rattle.mirror.specs.Layout.{MIRROR-SIZE, MIRROR-VERSION, NEWEST, RECORD}
use Rattle.octets.specs.Refusals.{first_of}
use mathlib.Core.Bool.{false, ◌&&◌}
use Rattle.mirror.specs.Mirror.{mirrorb, mirror_frontb, shownb, new_mirror, mirror_front, mirror_bytes, creating_mirror}

-- the part that is lent to be written, and comes back as ys
pub part_back : (l ys : List ℕ) → length l ≡ MIRROR-SIZE → drop RECORD (take (length l - SIZE) l ++ ys) ≡ ys
part_back l ys h = drop_at (take (length l - SIZE) l) ys RECORD (length-take-le (length l - SIZE) l (omega arith) ∙ omega arith)

-- ---- the front

pub mirror_fronted : (l m m' : List ℕ) (newest : Pair) → length l ≡ MIRROR-SIZE → m ≡ write l NEWEST (pair_bytes newest) → m' ≡ write m 0 (bytes2 MIRROR-SIZE)
    → set m' 2 MIRROR-VERSION ≡ mirror_front newest ++ drop RECORD l
unfolding write mirror_front
mirror_fronted l m m' newest len e e' =
    rw (e', e)
    (subst
    (λ (z : List ℕ). set (write (write z NEWEST (pair_bytes newest)) 0 (bytes2 MIRROR-SIZE)) 2 MIRROR-VERSION ≡ mirror_front newest ++ drop RECORD l)
    (heads_eq RECORD 0 l (omega arith))
    (rw (write_none (drop RECORD l) zero)))

-- ---- a new mirror

module _ (w sitting : ℕ) (l : List ℕ) where
  pub new_mirror_refused : (length l ≡ MIRROR-SIZE → ⊥) → Writes (creating_mirror w sitting l) (refused 1) l
  unfolding creating_mirror unless first_of
  new_mirror_refused ne = rw (ne_eqb (length l) MIRROR-SIZE ne) (record { number = refl; left = refl })

  -- k is the same as an array
  pub new_mirror_done : (k ys m : List ℕ) → IsWholeChunk l k MIRROR-SIZE → ys ≡ state_bytes (new_state w sitting)
      → m ≡ mirror_front (record { sitting = sitting; serial = 0 }) ++ drop RECORD (take (length k - SIZE) k ++ ys) → Writes (creating_mirror w sitting l) 0 m
  unfolding creating_mirror unless first_of mirror_bytes new_mirror
  new_mirror_done k ys m whole e em =
      let kept : length k ≡ MIRROR-SIZE = ap length whole.same ∙ whole.long in
      rw (eq-eqb (length l) MIRROR-SIZE whole.long)
      (record { number = refl; left = em ∙ ap (λ (x : List ℕ). mirror_front (record { sitting = sitting; serial = 0 }) ++ x) (part_back k ys kept ∙ e) })

-- ---- `mirror_ok`

-- the length field is looked at as one number, of two bytes
pub front_tested : (l : List ℕ) → get_or l 1 0 < 256 → mirror_frontb l ≡ eqb (number2 (get_or l 0 0) (get_or l 1 0)) MIRROR-SIZE && eqb (get_or l 2 0) MIRROR-VERSION
unfolding mirror_frontb
front_tested l h = rw (two_tested (get_or l 0 0) (get_or l 1 0) MIRROR-SIZE h) refl

pub length_bad : (l : List ℕ) → (length l ≡ MIRROR-SIZE → ⊥) → mirrorb l ≡ false
unfolding mirrorb
length_bad l ne = rw (ne_eqb (length l) MIRROR-SIZE ne)

pub mirror_tests : (l : List ℕ) → length l ≡ MIRROR-SIZE → mirrorb l ≡ mirror_frontb l && shownb l
unfolding mirrorb
mirror_tests l n = rw (eq-eqb (length l) MIRROR-SIZE n)
