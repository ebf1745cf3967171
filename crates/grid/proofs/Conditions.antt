-- From the test of a record to the documents' conditions, and back.
-- Assumes nothing.
use Prim.Native.Nat.{ℕ, ◌+◌, ◌-◌, ◌*◌, ◌≤◌, ◌<◌}
use mathlib.Core.Path.{◌≡◌, sym, ap, ◌∙◌}
use mathlib.Core.Bool.{Bool, true, false}
use mathlib.Core.List.{List}
use mathlib.Core.Logic.{◌↔◌, ◌⊎◌, inl, inr, ⊎_elim}
use native.Mathlib.Omega.{arith}
use lib.Dec.{leb, eqb}
use lib.ListN.{length, get_or, take, drop}
use borrow.Author.Tests.{leb-true, eqb-true, le-leb, eq-eqb}
use Rattle.octets.specs.Part.{window}
use Rattle.octets.specs.Test.{every, zerob}
use Rattle.std.proofs.lemmas.Bool.{or_cases, or_left, or_right}
use Rattle.octets.proofs.Bools.{fails, every_at, at_every}
use Rattle.octets.proofs.PartLaws.{length_window, take_window, drop_window}
use Rattle.octets.proofs.ZeroLaws.{part_at, at_part}
use Rattle.grid.specs.Layout.{SIZE, FLAGS, CHARS, ATTRS}
use Rattle.grid.specs.Screen.{Row, no_row, printable, valid_row}
use Rattle.grid.specs.Record.{row_of, row_from, rows_of, head_of, validb}
use Rattle.grid.specs.Conditions.{ValidHead, ValidRow, ValidRecord}
use Rattle.grid.specs.Facts.{HeadFacts, Valid}
use Rattle.grid.specs.declared.head.Head.{Head}
use Rattle.grid.proofs.RowLaws.{length_rows, get_d_rows}
use Rattle.grid.proofs.Validity.{head_is, row_facts, row_valid, valid_facts, facts_valid}

-- ---- a byte

pub printable_is : (c : ℕ) → (printable c ≡ true) ↔ ((c ≡ 27) ⊎ (32 ≤ c))
unfolding printable
printable_is c = (
  λ e. ⊎_elim (λ q. inl (eqb-true c 27 q)) (λ q. inr (leb-true 32 c q)) (or_cases (eqb c 27) (leb 32 c) e),
  ⊎_elim (λ (q : c ≡ 27). or_left (eqb c 27) (leb 32 c) (eq-eqb c 27 q)) (λ (q : 32 ≤ c). or_right (eqb c 27) (leb 32 c) (le-leb 32 c q)),
)

zero_is : (c : ℕ) → (zerob c ≡ true) ↔ (c ≡ 0)
unfolding zerob
zero_is c = (eqb-true c 0, eq-eqb c 0)

-- ---- the head

pub head_conditions : (h : Head) → HeadFacts h → ValidHead h
head_conditions h f =
    record {
      width = f.widths;
      row = f.row;
      col = f.col;
      insert = f.insert;
      cr = f.cr;
      keys = f.keys;
      foreground = f.foreground;
      background = f.background;
    }

pub conditions_head : (h : Head) → ValidHead h → HeadFacts h
conditions_head h v = head_is h v.width v.row v.col v.insert v.cr v.keys v.foreground v.background

-- ---- 80 bytes from index a on, of which w are in use

module _ (l : List ℕ) (a w : ℕ) (wide : w ≤ 80) (room : a + 80 ≤ length l) where
  in_use : (p : ℕ → Bool) → (every p (take w (window l a 80)) ≡ true) ↔ ((i : ℕ) → i < w → p (get_or l (a + i) 0) ≡ true)
  in_use p =
      let same : every p (take w (window l a 80)) ≡ every p (window l a w) = ap (every p) (take_window l a w 80 wide) in
      (λ e. part_at p l a w (omega arith) (sym same ∙ e), λ each. same ∙ at_part p l a w (omega arith) each)

  beyond : (every zerob (drop w (window l a 80)) ≡ true) ↔ ((i : ℕ) → w ≤ i → i < 80 → get_or l (a + i) 0 ≡ 0)
  beyond =
      let same : every zerob (drop w (window l a 80)) ≡ every zerob (window l (a + w) (80 - w)) = ap (every zerob) (drop_window l a w 80) in (
        λ e i lo hi.
            let z = part_at zerob l (a + w) (80 - w) (omega arith) (sym same ∙ e) (i - w) (omega arith) in
            let k : a + i ≡ a + w + (i - w) = omega arith in
            ap (λ (j : ℕ). get_or l j 0) k ∙ (zero_is _).0 z,
        λ each.
            same
            ∙ at_part zerob l (a + w) (80 - w) (omega arith)
            (λ i h.
            let k : a + w + i ≡ a + (w + i) = omega arith in
            (zero_is _).1 (ap (λ (j : ℕ). get_or l j 0) k ∙ each (w + i) (omega arith) (omega arith))),
      )

-- ---- a row

module _ (w : ℕ) (l : List ℕ) (f c a : ℕ) (wide : w ≤ 80) (chars : c + 80 ≤ length l) (attrs : a + 80 ≤ length l) where
  row_conditions : (valid_row w (row_from (get_or l f 0) l c a) ≡ true) ↔ ValidRow w l f c a
  unfolding row_from
  row_conditions = (
    λ e.
        let x = row_facts w _ e in
        record {
          flag = x.flag;
          inside = λ i h. (printable_is _).0 ((in_use l c w wide chars printable).0 x.inside i h);
          chars_beyond = (beyond l c w wide chars).0 x.chars_rest;
          attrs_beyond = (beyond l a w wide attrs).0 x.attrs_rest;
        },
    λ v.
        row_valid w _
        (record {
          chars80 = length_window l c 80 chars;
          attrs80 = length_window l a 80 attrs;
          flag = v.flag;
          inside = (in_use l c w wide chars printable).1 (λ i h. (printable_is _).1 (v.inside i h));
          chars_rest = (beyond l c w wide chars).1 v.chars_beyond;
          attrs_rest = (beyond l a w wide attrs).1 v.attrs_beyond;
        }),
  )

-- n rows, of which row k is read at the indices f k, c k and a k
pub rows_conditions : (w n : ℕ) (l : List ℕ) (rows : List Row) (f c a : ℕ → ℕ) → w ≤ 80 → length rows ≡ n
    → ((k : ℕ) → k < n → (c k + 80 ≤ length l) × (a k + 80 ≤ length l)) → ((k : ℕ) → k < n → get_or rows k no_row ≡ row_from (get_or l (f k) 0) l (c k) (a k))
    → (every (valid_row w) rows ≡ true) ↔ ((k : ℕ) → k < n → ValidRow w l (f k) (c k) (a k))
rows_conditions w n l rows f c a wide count room is =
    let one : (k : ℕ) → k < n → (valid_row w (row_from (get_or l (f k) 0) l (c k) (a k)) ≡ true) ↔ ValidRow w l (f k) (c k) (a k) =
    λ k h. row_conditions w l (f k) (c k) (a k) wide (room k h).0 (room k h).1 in (
      λ e k h. (one k h).0 (ap (valid_row w) (sym (is k h)) ∙ every_at (valid_row w) rows k no_row e (omega arith)),
      λ each. at_every (valid_row w) rows no_row (λ k q. let h : k < n = omega arith in ap (valid_row w) (is k h) ∙ (one k h).1 (each k h)),
    )

-- ---- the record

record_rows : (l : List ℕ) (w : ℕ) → w ≤ 80 → length l ≡ SIZE
    → (every (valid_row w) (rows_of l) ≡ true) ↔ ((r : ℕ) → r < 25 → ValidRow w l (FLAGS + r) (CHARS + 80 * r) (ATTRS + 80 * r))
unfolding row_from row_of
record_rows l w wide len =
    rows_conditions w 25 l (rows_of l) (λ r. FLAGS + r) (λ r. CHARS + 80 * r) (λ r. ATTRS + 80 * r) wide (length_rows l)
    (λ r h. (omega arith, omega arith)) (λ r h. get_d_rows l r no_row h)

pub record_conditions : (l : List ℕ) → Valid l → ValidRecord l
record_conditions l v =
    record {
      size = v.size;
      length_high = v.length_high;
      length_low = v.length_low;
      version = v.version;
      touched = v.touched;
      head = head_conditions (head_of l) v.screen.head;
      rows = (record_rows l _ v.screen.head.width_to v.size).0 v.screen.rows.valid;
    }

pub conditions_record : (l : List ℕ) → ValidRecord l → Valid l
conditions_record l v =
    let h = conditions_head (head_of l) v.head in
    record {
      size = v.size;
      length_high = v.length_high;
      length_low = v.length_low;
      version = v.version;
      touched = v.touched;
      screen = record { head = h; rows = record { count = length_rows l; valid = (record_rows l _ h.width_to v.size).1 v.rows } };
    }

pub record_facts : (l : List ℕ) → validb l ≡ true → ValidRecord l
record_facts l e = record_conditions l (valid_facts l e)

pub facts_record : (l : List ℕ) → ValidRecord l → validb l ≡ true
facts_record l v = facts_valid l (conditions_record l v)

pub not_valid : (l : List ℕ) → (¬ ValidRecord l) ↔ (validb l ≡ false)
not_valid l = fails (ValidRecord l) (validb l) (record_facts l) (facts_record l)
