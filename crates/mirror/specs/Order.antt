-- Document 02, (c): "Pairs of sitting and serial, ordered by sitting first", as the mirror compares them. What arrivals are counted by
-- (`specs/Count.antt`) has an order of its own, so that a wrong one here cannot hide; `proofs/OneOrder.antt` has that the two agree.
-- Assumes nothing.
use Rattle.std.specs.Prelude.{if◌then◌else◌, Bool, ◌&&◌, ltb, eqb}
use Rattle.grid.specs.declared.pair.Pair.{Pair}

unfoldable pub same_pair : Pair → Pair → Bool
same_pair p q = eqb p.sitting q.sitting && eqb p.serial q.serial

-- p is later than q
unfoldable pub later : Pair → Pair → Bool
later p q = if eqb p.sitting q.sitting then ltb q.serial p.serial else ltb q.sitting p.sitting

-- the later of the two
unfoldable pub latest : Pair → Pair → Pair
latest p q = if later q p then q else p
