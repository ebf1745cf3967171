-- What the rules keep that only move the cursor and change editable rows: all but the four modes.
-- Assumes nothing.
use Prim.Native.Nat.{◌<◌}
use mathlib.Core.List.{List}
use Rattle.grid.specs.Screen.{Row, Screen, with_rows, move_to, editable}
use Rattle.grid.specs.Facts.{ScreenFacts}
use Rattle.values.specs.declared.cursor.Cursor.{Cursor}
use Rattle.grid.proofs.Validity.{head_is}
use Rattle.grid.proofs.Keep.{Edited}

-- P, which holds of valid screens only, is kept
pub record Kept (P : Screen → Type 0) : Type 0 where
  pub facts : (s : Screen) → P s → ScreenFacts s
  pub move : (s : Screen) (c : Cursor) → P s → c.row < editable s.head.keys → c.col < s.head.width → P (move_to s c)
  pub edit : (s : Screen) (rows : List Row) → P s → Edited s.head.width (editable s.head.keys) s.rows rows → P (with_rows s rows)

-- a valid screen stays valid
pub valid_kept : Kept ScreenFacts
unfolding move_to with_rows
valid_kept =
    record {
      facts = λ s f. f;
      move = λ s c f r k.
          record { head = head_is _ f.head.widths r k f.head.insert f.head.cr f.head.keys f.head.foreground f.head.background; rows = f.rows };
      edit = λ s rows f g. record { head = f.head; rows = g.rows };
    }
