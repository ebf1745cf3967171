-- `fresh`: a new screen.
-- Assumes nothing.
use Prim.Native.Nat.{ℕ, ◌≤◌}
use mathlib.Core.Path.{◌≡◌, ap, ◌∙◌}
use mathlib.Core.List.{List, [], ◌++◌, append-nil}
use native.Mathlib.Omega.{arith}
use lib.ListN.{drop, replicate, drop_of_length-le}
use Rattle.grid.specs.Layout.{FLAGS}
use Rattle.grid.specs.Screen.{Row, blank_row, new_head, new_screen, new_state}
use Rattle.values.specs.Attr.{normal}
use Rattle.grid.specs.Record.{rows_of, front_bytes, state_bytes, Becomes}
use Rattle.grid.specs.Facts.{HeadFits}
use Rattle.grid.specs.declared.head.Head.{Head}
use Rattle.grid.proofs.RowLaws.{length_rows}
use Rattle.grid.proofs.Validity.{head_fits}
use Rattle.grid.proofs.Keep.{new_head_facts}
use Rattle.grid.proofs.Record.{left_bytes}

pub new_width : (w : ℕ) (h : Head) → h ≡ new_head w → h.width ≤ 80
new_width w h e = rw e (new_head_facts w).width_to

pub new_fits : (w : ℕ) (h : Head) → h ≡ new_head w → HeadFits h
new_fits w h e = rw e (head_fits (new_head w) (new_head_facts w))

pub new_end : (w sitting : ℕ) (l m n : List ℕ) (h : Head) → h ≡ new_head w → Becomes l m (replicate 25 (blank_row h.width normal) ++ drop 25 (rows_of l))
    → n ≡ front_bytes h (record { pair = record { sitting = sitting; serial = 0 }; touched = 0 }) ++ drop FLAGS m → n ≡ state_bytes (new_state w sitting)
unfolding new_state new_screen
new_end w sitting l m n h e p q =
    let none : drop 25 (rows_of l) ≡ [] = drop_of_length-le (rows_of l) {i = 25} (omega (arith, length_rows l)) in
    let blank = replicate 25 (blank_row h.width normal) in
    left_bytes m n h blank (record { pair = record { sitting = sitting; serial = 0 }; touched = 0 }) p.size (p.rows ∙ ap (λ (x : List Row). blank ++ x) none ∙ append-nil blank) q
    ∙ ap (λ (x : Head). state_bytes (record { screen = record { head = x; rows = replicate 25 (blank_row x.width normal) }; stamp = record { pair = record { sitting = sitting; serial = 0 }; touched = 0 } })) e
