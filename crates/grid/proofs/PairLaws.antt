-- `pair`: a pair read and written; what is written is read back, and the other way round.
-- Assumes nothing.
use Prim.Native.Nat.{ℕ, ◌+◌, ◌≤◌}
use mathlib.Core.Path.{◌≡◌, ap, ap₂, ◌∙◌}
use mathlib.Core.Bool.{true}
use mathlib.Core.List.{List, [], ◌∷◌, ◌++◌}
use native.Mathlib.Omega.{arith}
use lib.ListN.{length, get_or}
use Rattle.octets.specs.Test.{every, is_byte}
use Rattle.octets.specs.Part.{write}
use Rattle.octets.specs.Number.{bytes4}
use Rattle.octets.proofs.NumberLaws.{whole4, four_bytes, four_lt}
use Rattle.octets.proofs.PartLaws.{write_append}
use Rattle.grid.specs.Facts.{PairFits}
use Rattle.grid.specs.Pair.{pair_at, pair_bytes}
use Rattle.grid.specs.declared.pair.Pair.{Pair}

-- `put_pair`
pub paired : (l m n : List ℕ) (i : ℕ) (p : Pair) → m ≡ write l i (bytes4 p.serial) → n ≡ write m (i + 4) (bytes4 p.sitting) → n ≡ write l i (pair_bytes p)
paired l m n i p e f = f ∙ ap (λ (x : List ℕ). write x (i + 4) (bytes4 p.sitting)) e ∙ write_append l i (bytes4 p.serial) (bytes4 p.sitting)

-- ---- back

pub pair_whole : (p : Pair) → PairFits p → pair_at (pair_bytes p) 0 ≡ p
unfolding pair_at
pair_whole p f = λ j. record { sitting = whole4 p.sitting f.sitting j; serial = whole4 p.serial f.serial j }

module _ (l : List ℕ) (i : ℕ) (b : every is_byte l ≡ true) (h : i + 8 ≤ length l) where
  pub pair_again : pair_bytes (pair_at l i)
      ≡ (get_or l i 0 ∷ get_or l (i + 1) 0 ∷ get_or l (i + 2) 0 ∷ get_or l (i + 3) 0 ∷ [])
      ++ (get_or l (i + 4) 0 ∷ get_or l (i + 4 + 1) 0 ∷ get_or l (i + 4 + 2) 0 ∷ get_or l (i + 4 + 3) 0 ∷ [])
  unfolding pair_at
  pair_again = ap₂ (λ (x y : List ℕ). x ++ y) (four_bytes l i b (omega arith)) (four_bytes l (i + 4) b (omega arith))

  pub pair_fits : PairFits (pair_at l i)
  unfolding pair_at
  pair_fits = record { sitting = four_lt l (i + 4) b (omega arith); serial = four_lt l i b (omega arith) }
