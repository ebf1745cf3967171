-- Document 02, (c): a pair of sitting and serial, and its bytes: "It stands after the serial in the screen record, in reports and after the newest serial
-- in the mirror". `Pair` is the struct of `src/pair.rt`.
-- Assumes nothing.
use Rattle.std.specs.Prelude.{ℕ, ◌+◌, List, ◌++◌}
use Rattle.octets.specs.Number.{bytes4, four_at}
use Rattle.grid.specs.declared.pair.Pair.{Pair}

-- the pair whose serial stands from index i on
unfoldable pub pair_at : List ℕ → ℕ → Pair
pair_at l i = record { sitting = four_at l (i + 4); serial = four_at l i }

abbrev pub pair_bytes : Pair → List ℕ
pair_bytes p = bytes4 p.serial ++ bytes4 p.sitting

-- the next serial of the same sitting
unfoldable pub next_pair : Pair → Pair
next_pair p = record { sitting = p.sitting; serial = p.serial + 1 }
