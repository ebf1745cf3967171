-- The loops of `keys::table::lengths_of`.
use Prim.Native.Nat.{ℕ, ◌<◌}
use mathlib.Core.Path.{◌≡◌}
use lib.ListN.{get_or}
use Rattle.keys.specs.Keys.{length_at}
use Rattle.keys.proofs.table.lengths_of.Given as goal

abbrev pub invariant-loop-k : goal.invariant-loop-k
invariant-loop-k l = (i : ℕ) → i < l.k → get_or l.n-items i 0 ≡ length_at l.tab i
