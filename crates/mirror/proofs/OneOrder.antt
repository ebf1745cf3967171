-- The order of pairs in arrival is the one that the claims spell out.
-- Assumes nothing.
use mathlib.Core.Path.{◌≡◌, refl, sym}
use mathlib.Core.Bool.{Bool, true, false, ◌&&◌, ◌||◌, or-false}
use native.Mathlib.Omega.{arith}
use lib.Dec.{ltb, eqb}
use borrow.Author.Tests.{eqb-true, le-ltb}
use Rattle.std.specs.Prelude.{if◌then◌else◌}
use Rattle.grid.specs.declared.pair.Pair.{Pair}
use Rattle.mirror.specs.Order.{later}
use Rattle.mirror.specs.Count.{is_later}

-- THE LAW: what the count takes for later is what the mirror takes for later
pub later_is : (p q : Pair) → later p q ≡ is_later p q
unfolding later is_later
later_is p q = go (eqb p.sitting q.sitting) refl
  where
    go : (b : Bool) → eqb p.sitting q.sitting ≡ b
        → (if b then ltb q.serial p.serial else ltb q.sitting p.sitting) ≡ ltb q.sitting p.sitting || (b && ltb q.serial p.serial)
    go true e =
        let s = eqb-true p.sitting q.sitting e in
        rw (le-ltb q.sitting p.sitting (omega arith))
    go false e = sym (or-false (ltb q.sitting p.sitting))
