-- Printing only moves the cursor and changes editable rows.
-- Assumes nothing.
use Prim.Native.Nat.{ℕ, ◌-◌, ◌<◌, ◌+◌}
use mathlib.Core.Path.{◌≡◌}
use mathlib.Core.Bool.{Bool, true}
use mathlib.Core.List.{List, [], ◌∷◌}
use native.Mathlib.Omega.{arith}
use lib.ListN.{length-set}
use lib.Seq.{append_snoc, take-set-lt, drop-set-lt}
use lib.Dec.{eqb, ltb}
use borrow.Author.Tests.{ltb-true}
use Rattle.grid.specs.Screen.{Row, Screen, with_rows, move_to, set_flag, put_cell, scrolled, editable, printable}
use Rattle.grid.specs.Facts.{RowFacts}
use Rattle.values.specs.Cursor.{at}
use Rattle.values.specs.declared.attr.Attr.{Attr}
use Rattle.octets.proofs.Bools.{cases, either, every_set}
use Rattle.grid.proofs.Validity.{row_valid}
use Rattle.grid.proofs.Keep.{rows_take, rows_drop, rows_append, rows_count, rows_replicate, row_at_facts, edited_set, edited_flag, edited_top, blank_of}
use Rattle.line.proofs.Kept.{Kept}
use Rattle.editor.specs.Print.{Advanced, still, scroll, next_row, newline, write_cell, put_char, print_byte, print}

pub cell_row : (w c ch : ℕ) (a : Attr) (x : Row) → c < w → printable ch ≡ true → RowFacts w x → RowFacts w (put_cell c ch a x)
unfolding put_cell
cell_row w c ch a x h v p =
    record {
      chars80 = simp length-set (omega arith);
      attrs80 = simp length-set (omega arith);
      flag = p.flag;
      inside = rw take-set-lt (every_set printable _ c ch p.inside v);
      chars_rest = rw drop-set-lt p.chars_rest;
      attrs_rest = rw drop-set-lt p.attrs_rest;
    }

module _ {P : Screen → Type 0} (k : Kept P) where
  abbrev Q : Advanced → Type 0
  Q a = P a.screen

  pub scroll_kept : (s : Screen) → P s → P (scroll s)
  unfolding scroll scrolled
  scroll_kept s p =
      let f = k.facts s p in
      let e : ℕ = editable s.head.keys in
      let top = rows_append (rows_drop 1 (rows_take e f.rows)) (rows_replicate _ 1 _ (blank_of s f)) in
      k.edit s _ p (rw append_snoc at (edited_top f.rows _ f.head.edit_to (rows_count e (omega arith) top)))

  pub next_row_kept : (s : Screen) → P s → P (next_row s).screen
  unfolding next_row scroll with_rows
  next_row_kept s p =
      let f = k.facts s p in
      cases Q (ltb (s.head.cursor.row + 1) (editable s.head.keys)) _ _ (λ e. k.move s _ p (ltb-true _ _ e) (omega arith)) (λ e. k.move (scroll s) _ (scroll_kept s p) (omega arith) (omega arith))

  pub new_line : (s : Screen) → P s → P (newline s).screen
  unfolding newline
  new_line s p =
      let f = k.facts s p in
      either Q _ _ _ (k.edit s _ p (edited_flag f.rows (s.head.cursor.row - 1) 0 (omega arith) f.head.edit_to (omega arith))) (next_row_kept s p)

  module _ (s : Screen) (ch : ℕ) (v : printable ch ≡ true) (p : P s) where
    written : P (write_cell s ch)
    unfolding write_cell
    written =
        let f = k.facts s p in
        k.edit s _ p (edited_set f.rows _ _ f.head.row (row_valid _ _ (cell_row _ _ ch _ _ f.head.col v (row_at_facts _ (omega arith) f.rows))))

    pub put_char_kept : P (put_char s ch).screen
    unfolding put_char write_cell with_rows
    put_char_kept =
        let f = k.facts s p in
        let g = k.facts (write_cell s ch) written in
        let r : ℕ = s.head.cursor.row in
        let c : ℕ = s.head.cursor.col in
        let u : Screen = write_cell s ch in
        cases Q (ltb (c + 1) s.head.width) (still (move_to u (at r (c + 1)))) (next_row (with_rows u (set_flag u.rows r 1)))
        (λ e. k.move (write_cell s ch) _ written f.head.row (ltb-true _ _ e))
        (λ e. next_row_kept _ (k.edit (write_cell s ch) _ written (edited_flag g.rows _ 1 f.head.row f.head.edit_to (omega arith))))

  pub print_byte_kept : (cr : Bool) (s : Screen) (b : ℕ) → P s → P (print_byte cr s b).screen
  unfolding print_byte
  print_byte_kept cr s b p =
      let line = new_line s p in
      either Q (eqb b 13) (newline s) _ line
      (either Q (eqb b 10) _ _ (either Q cr (still s) (newline s) p line) (cases Q (printable b) (put_char s b) (still s) (λ v. put_char_kept s b v p) (λ e. p)))

  pub printed : (bs : List ℕ) (cr : Bool) (s : Screen) → P s → P (print cr s bs).screen
  unfolding print
  printed [] cr s p = p
  printed (b ∷ bs) cr s p = printed bs (eqb b 13) (print_byte cr s b).screen (print_byte_kept cr s b p)
