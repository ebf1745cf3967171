-- `valid`: the test of a record's layout, on each way out.
-- The premises of a law here are what the code has at hand in that place: the `requires`, the tests on the way, what callees ensure, and the
-- invariant. So a proof says `search (rules, LAW)` and names no path: antt finds the premises among the fields of `c`.
-- Assumes nothing.
use Prim.Native.Nat.{ℕ, ◌-◌, ◌<◌}
use mathlib.Core.Path.{◌≡◌, refl, sym, ap, ◌∙◌}
use mathlib.Core.Bool.{Bool, true, false, ◌&&◌, not}
use mathlib.Core.Bool
use mathlib.Core.List.{List}
use mathlib.Core.Logic.{⊎_elim}
use native.Mathlib.Omega.{arith}
use lib.Dec.{eqb, leb, ltb}
use lib.ListN.{length, get_or, take, drop, length-drop}
use lib.Seq.{take_all}
use borrow.Author.Tests.{eq-eqb, ne_eqb, not-false}
use Rattle.grid.specs.Layout.{SIZE, VERSION, MASKS}
use Rattle.octets.specs.Test.{every, zerob}
use Rattle.grid.specs.Screen.{Row, printable, valid_head, valid_row, valid_screen}
use Rattle.std.proofs.Math.Bool.{and_assoc}
use Rattle.std.specs.List.{list_all, range_with_len}
use Rattle.grid.specs.Record.{row_of, rows_of, head_of, touched_of, frontb, validb}
use Rattle.grid.specs.declared.head.Head.{Head}
use Rattle.octets.specs.Number.{number2}
use Rattle.octets.specs.Table.{tabulate}
use Rattle.octets.proofs.NumberLaws.{two_tested}
use Rattle.grid.proofs.RowLaws.{length_rows}
use Rattle.grid.proofs.Validity.{head_facts}

-- ---- a row

-- what is behind the first w of 80 bytes
rest80 : (l : List ℕ) (w : ℕ) → length l ≡ 80 → take (80 - w) (drop w l) ≡ drop w l
rest80 l w n = take_all (80 - w) (drop w l) (rw length-drop (omega arith))

-- the parts of a row that the code looks at: its characters and its attributes, 80 of each
pub row_test : (x : Row) (w : ℕ) (cs as' : List ℕ) (t : Bool) → (cs ≡ x.chars) × (length x.chars ≡ 80) → (as' ≡ x.attrs) × (length x.attrs ≡ 80)
    → t ≡ leb x.flag 1 && every printable (take w cs) && every zerob (take (80 - w) (drop w cs)) && every zerob (take (80 - w) (drop w as')) → t ≡ valid_row w x
unfolding valid_row
row_test x w cs as' t c a e =
    rw (eq-eqb (length x.chars) 80 c.1, eq-eqb (length x.attrs) 80 a.1, ← (rest80 x.chars w c.1), ← (rest80 x.attrs w a.1), ← c.0, ← a.0) e

-- ---- the rows, of w columns

pub rows_tested : (l : List ℕ) (w : ℕ) → list_all (λ (r : ℕ). valid_row w (row_of l r)) (range_with_len 0 25) ≡ every (valid_row w) (rows_of l)
unfolding rows_of every tabulate
rows_tested l w = refl

-- ---- the record

-- where there are as many bytes as a record has
pub record_test : (l : List ℕ) → length l ≡ SIZE
    → validb l ≡ frontb l && valid_head (head_of l) && every (valid_row (head_of l).width) (rows_of l)
unfolding validb valid_screen
record_test l n =
    rw (eq-eqb (length l) SIZE n, eq-eqb (length (rows_of l)) 25 (length_rows l), Bool.and-true (valid_head (head_of l)))
    (sym (and_assoc (frontb l) (valid_head (head_of l)) (every (valid_row (head_of l).width) (rows_of l))))

pub head_bad : (l : List ℕ) → valid_head (head_of l) ≡ false → validb l ≡ false
unfolding validb valid_screen
head_bad l e = simp (e, Bool.and-false)

pub length_bad : (l : List ℕ) → (length l ≡ SIZE → ⊥) → validb l ≡ false
unfolding validb
length_bad l h = rw (ne_eqb (length l) SIZE h)

-- `front_ok`: the length field is looked at as one number, of two bytes
pub front_tested : (l : List ℕ) → get_or l 1 0 < 256
    → frontb l ≡ eqb (number2 (get_or l 0 0) (get_or l 1 0)) SIZE && eqb (get_or l 2 0) VERSION && ltb (touched_of l) MASKS
unfolding frontb
front_tested l h = rw (two_tested (get_or l 0 0) (get_or l 1 0) SIZE h) refl

-- t and f are what `head_ok` and `front_ok` have answered, of a record that is not narrow
pub wide_done : (l : List ℕ) (h : Head) (t f r : Bool) → length l ≡ SIZE → h ≡ head_of l → t ≡ valid_head h → not t ≡ false → f ≡ frontb l → not f ≡ false
    → (h.width ≡ 40 → ⊥) → r ≡ every (valid_row 80) (rows_of l) → r ≡ validb l
wide_done l h t f r n eh it et iff ef wide e =
    let head : valid_head (head_of l) ≡ true = ap valid_head (sym eh) ∙ sym it ∙ not-false t et in
    let front : frontb l ≡ true = sym iff ∙ not-false f ef in
    let w : (head_of l).width ≡ 80 =
    ⊎_elim (λ (q : (head_of l).width ≡ 40). absurd (wide (ap (λ (x : Head). x.width) eh ∙ q))) (λ (q : (head_of l).width ≡ 80). q)
    (head_facts (head_of l) head).widths in
    rw (record_test l n, head, front, w) e
