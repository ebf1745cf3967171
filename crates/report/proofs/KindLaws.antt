-- `kind`: the kind of a byte, its byte, its mask, and where its rows begin.
-- Assumes nothing.
use Prim.Native.Nat.{ℕ, ◌<◌}
use mathlib.Core.Path.{◌≡◌, refl, sym}
use mathlib.Core.Bool.{true}
use native.Mathlib.Omega.{arith}
use lib.Dec.{eqb}
use borrow.Author.Tests.{ltb-true, eqb-true, eq-eqb, ne_eqb}
use Rattle.std.proofs.lemmas.Bool.{cond-true as pick, cond-false as skip}
use Rattle.grid.specs.Layout.{MASKS}
use Rattle.report.specs.Layout.{ROWS, STEP, FULL, ALL-ROWS}
use Rattle.report.specs.declared.kind.Kind.{Kind}
use Rattle.report.specs.declared.kind.Kind.TheVariants.{Step, Full}
use Rattle.report.specs.Kind.{kind_byte, kind_of, mask_of, mask_fits, rows_at}

pub full_of : (b : ℕ) → b ≡ FULL → Full ≡ kind_of b
unfolding kind_of
full_of b e = sym (pick (eqb b FULL) Full Step (eq-eqb b FULL e))

pub step_of : (b : ℕ) → (b ≡ FULL → ⊥) → Step ≡ kind_of b
unfolding kind_of
step_of b n = sym (skip (eqb b FULL) Full Step (ne_eqb b FULL n))

pub step_byte : (b : ℕ) → b ≡ STEP → Step ≡ kind_of b
step_byte b e = step_of b (λ q. omega arith)

pub kind_back : (k : Kind) → kind_of (kind_byte k) ≡ k
unfolding kind_of kind_byte
kind_back Step = refl
kind_back Full = refl

-- the rows of either kind begin at the same place
pub rows_at_kind : (k : Kind) → rows_at k ≡ ROWS
unfolding rows_at
rows_at_kind Step = refl
rows_at_kind Full = refl

pub mask_lt : (k : Kind) (mask : ℕ) → mask_fits k mask ≡ true → mask < MASKS
unfolding mask_fits
mask_lt Step mask t = ltb-true _ _ t
mask_lt Full mask t = let e : mask ≡ ALL-ROWS = eqb-true _ _ t in omega arith

pub mask_small : (k : Kind) (touched : ℕ) → touched < MASKS → mask_of k touched < MASKS
unfolding mask_of
mask_small Step touched h = h
mask_small Full touched h = omega arith
