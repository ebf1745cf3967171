-- The cursor's moves keep it inside.
-- Assumes nothing.
use Prim.Native.Nat.{ℕ, ◌+◌, ◌<◌}
use mathlib.Core.Path.{◌≡◌}
use native.Mathlib.Omega.{arith}
use lib.Dec.{ltb}
use borrow.Author.Tests.{ltb-true}
use Rattle.values.specs.Cursor.{left, right, up, down, clamp}
use Rattle.values.specs.declared.cursor.Cursor.{Cursor}
use Rattle.octets.proofs.Bools.{cases, either}

pub cursor_eq : (a b : Cursor) → a.row ≡ b.row → a.col ≡ b.col → a ≡ b
cursor_eq a b p q = λ i. record { row = p i; col = q i }

-- the cursor stands in w columns and e rows
pub record Inside (w e : ℕ) (c : Cursor) : Type 0 where
  pub row : c.row < e
  pub col : c.col < w

module _ (w e : ℕ) (c : Cursor) (p : Inside w e c) where
  pub left_inside : Inside w e (left w c)
  unfolding left
  left_inside =
      either (Inside w e) (ltb 0 c.col) _ _ (omega arith) (either (Inside w e) (ltb 0 c.row) _ _ (omega arith) p)

  pub right_inside : Inside w e (right w e c)
  unfolding right
  right_inside = cases (Inside w e) (ltb (c.col + 1) w) _ _ (λ t. omega (arith, ltb-true)) (λ t. cases (Inside w e) (ltb (c.row + 1) e) _ _ (λ u. omega (arith, ltb-true)) (λ u. p))

  pub up_inside : Inside w e (up c)
  unfolding up
  up_inside = either (Inside w e) (ltb 0 c.row) _ _ (omega arith) p

  pub down_inside : Inside w e (down e c)
  unfolding down
  down_inside = cases (Inside w e) (ltb (c.row + 1) e) _ _ (λ t. omega (arith, ltb-true)) (λ t. p)

pub clamp_inside : (w e : ℕ) (c : Cursor) → 0 < w → 0 < e → Inside w e (clamp w e c)
unfolding clamp
clamp_inside w e c h k = omega arith
