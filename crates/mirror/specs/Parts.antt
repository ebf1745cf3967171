-- What the code computes on the way when a report is taken in.
-- Assumes nothing.
use Rattle.std.specs.Prelude.{ℕ, ◌≡◌, ◌++◌, List, drop}
use Rattle.grid.specs.Pair.{pair_at}
use Rattle.grid.specs.declared.pair.Pair.{Pair}
use Rattle.mirror.specs.Layout.{NEWEST, RECORD}
use Rattle.mirror.specs.Order.{latest}
use Rattle.mirror.specs.Mirror.{mirror_front, level_of}

-- the pair p heard of by the mirror l, where the pair s is shown: n is the number answered
pub record Hears (p s : Pair) (l l' : List ℕ) (n : ℕ) : Type 0 where
  pub left : l' ≡ mirror_front (latest (pair_at l NEWEST) p) ++ drop RECORD l
  pub level : n ≡ level_of s (latest (pair_at l NEWEST) p)
