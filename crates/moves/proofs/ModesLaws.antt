-- `modes`: `set_width` blanks all rows that there are.
-- Assumes nothing.
use Prim.Native.Nat.{ℕ}
use mathlib.Core.Path.{◌≡◌, ◌∙◌}
use mathlib.Core.List.{List, [], ◌++◌, append-nil}
use native.Mathlib.Omega.{arith}
use lib.ListN.{drop, replicate, drop_of_length-le}
use Rattle.values.specs.Cursor.{home}
use Rattle.grid.specs.Screen.{Screen, with_cursor, blank_row, with_insert, with_width}
use Rattle.grid.specs.Record.{rows_of, screen_with, Becomes, Leaves}
use Rattle.grid.specs.declared.head.Head.{Head}
use Rattle.grid.proofs.RowLaws.{length_rows}
use Rattle.grid.proofs.ScreenLaws.{head_seen}
use Rattle.editor.specs.Modes.{set_width}
use Rattle.editor.specs.Call.{SetWidth, rule, apply}

-- the screen s is read from the record r with the head h
pub width_set : (r l m : List ℕ) (h f g k : Head) (s : Screen) (w : ℕ) → screen_with h r ≡ s
    → Becomes l m (replicate 25 (blank_row w h.attr) ++ drop 25 (rows_of l)) → f ≡ with_width h w → g ≡ with_cursor f home → k ≡ with_insert g 0
    → Leaves (apply (SetWidth w) s) l m k
unfolding apply rule set_width
width_set r l m h f g k s w is b ef eg ek =
    let q : h ≡ s.head = head_seen r h s is in
    let none : drop 25 (rows_of l) ≡ [] = drop_of_length-le (rows_of l) {i = 25} (omega (arith, length_rows l)) in
    record {
      becomes = record { size = b.size; front = b.front; rows = rw (none, q) at b.rows ∙ append-nil _ };
      head = rw (eg, ef, q) at ek;
    }
