-- The loops of `keys::table::macros_of`.
use Prim.Native.Nat.{ℕ, ◌<◌}
use mathlib.Core.Path.{◌≡◌}
use mathlib.Core.List.{[]}
use lib.ListN.{length, get_or}
use Rattle.keys.specs.Keys.{macro_at}
use Rattle.keys.proofs.table.macros_of.Given as goal

abbrev pub invariant-loop-k : goal.invariant-loop-k
invariant-loop-k l = (length l.m-items ≡ 10) × ((i : ℕ) → i < l.k → get_or l.m-items i [] ≡ macro_at l.tab i)
