-- What is known of a screen that is read from a record's rows with a head.
-- Assumes nothing.
use Prim.Native.Nat.{ℕ, ◌<◌}
use mathlib.Core.Path.{◌≡◌, sym, ap, ◌∙◌, subst}
use mathlib.Core.List.{List}
use lib.ListN.{get_or}
use Rattle.grid.specs.Screen.{Row, Screen, no_row, row_at}
use Rattle.grid.specs.Record.{row_of, rows_of, screen_with}
use Rattle.grid.specs.Facts.{ScreenFacts, Known}
use Rattle.grid.specs.declared.head.Head.{Head}
use Rattle.grid.proofs.RowLaws.{get_d_rows}

module _ (l : List ℕ) (h : Head) (s : Screen) (is : screen_with h l ≡ s) where
  pub head_seen : h ≡ s.head
  head_seen = ap (λ (x : Screen). x.head) is

  pub rows_seen : rows_of l ≡ s.rows
  rows_seen = ap (λ (x : Screen). x.rows) is

  pub facts_seen : Known l h → ScreenFacts s
  facts_seen known = subst ScreenFacts is (record { head = known.facts; rows = known.rows })

  pub row_seen : (x : Row) (r : ℕ) → r < 25 → x ≡ row_of l r → x ≡ row_at s.rows r
  unfolding row_at
  row_seen x r k e = e ∙ sym (get_d_rows l r no_row k) ∙ ap (λ (y : List Row). get_or y r no_row) rows_seen
