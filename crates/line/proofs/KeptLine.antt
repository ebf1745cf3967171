-- The span of a row lies among the editable rows, and a spliced screen is valid.
-- Assumes nothing.
use Prim.Native.Nat.{ℕ, zero, suc, ◌+◌, ◌-◌, ◌*◌, ◌/◌, ◌%◌, ◌≤◌, ◌<◌, max}
use mathlib.Core.Path.{◌≡◌, refl, subst}
use mathlib.Core.Bool.{Bool, true, false, ◌&&◌}
use mathlib.Core.List.{List, [], ◌∷◌, ◌++◌, append_assoc}
use mathlib.Core.Logic.{◌⊎◌, ⊎_elim}
use native.Mathlib.Nat.{mod-lt}
use native.Mathlib.Omega.{arith}
use lib.ListN.{length, take, drop, replicate, length-append, length-take, length-replicate}
use lib.Dec.{eqb, ltb}
use borrow.Author.Tests.{eqb-true, eqb-false, ltb-true, ltb-false}
use Rattle.std.specs.Prelude.{if◌then◌else◌}
use Rattle.grid.specs.Screen.{Row, Screen, with_rows, editable, is_space, trim, printable, valid_row, blank_row}
use Rattle.octets.specs.Test.{every}
use Rattle.grid.specs.Facts.{RowsFacts, ScreenFacts}
use Rattle.values.specs.declared.attr.Attr.{Attr}
use Rattle.octets.proofs.Bools.{and_left, and_right, cases, either, every_both, every_take, every_drop}
use Rattle.grid.proofs.Trim.{trim_le}
use Rattle.grid.proofs.Validity.{row_facts, row_valid}
use Rattle.grid.proofs.Keep.{rows_take, rows_drop, rows_append, rows_cons, rows_count, rows_replicate, row_at_facts, spaces, line_row_facts, Edited, edited_top, blank_of}
use Rattle.line.specs.Line.{MAX-LOGICAL, start_of, end_of, joined, row_text, whole_rows, reading, line_text, index, reach, content}
use Rattle.line.specs.Splice.{rows_for, line_rows, spliced_rows, splice}
use Rattle.line.proofs.SpanLaws.{span_start_most, span_end_from, span_end_to}
use Rattle.line.proofs.Kept.{Kept}

-- ---- spans

-- the span of an editable row r
pub record SpanFacts (s : Screen) (r : ℕ) : Type 0 where
  pub from : start_of s r ≤ r
  pub to : r ≤ end_of s r
  pub inside : end_of s r < editable s.head.keys

pub span : (s : Screen) (r : ℕ) → r < editable s.head.keys → SpanFacts s r
unfolding start_of end_of
span s r h =
    let k : ℕ = editable s.head.keys - 1 - r in
    record { from = span_start_most s.rows r; to = span_end_from s.rows k r; inside = omega (arith, span_end_to s.rows k r) }

-- ---- the text that is edited: at most 255 characters, with the cursor at i

pub record TextFacts (cs : List ℕ) (i : ℕ) : Type 0 where
  pub chars : every printable cs ≡ true
  pub fits : length cs ≤ MAX-LOGICAL
  pub within : i ≤ length cs

joined_chars : (w : ℕ) (rows : List Row) → every (valid_row w) rows ≡ true → every printable (joined w rows) ≡ true
unfolding joined every
joined_chars w [] v = refl
joined_chars w (x ∷ xs) v =
    every_both printable (take w x.chars) (joined w xs) (row_facts w x (and_left (valid_row w x) _ v)).inside
    (joined_chars w xs (and_right (valid_row w x) _ v))

module _ (s : Screen) (f : ScreenFacts s) where
  whole_chars : (b e : ℕ) → every printable (whole_rows s b e) ≡ true
  unfolding whole_rows
  whole_chars b e = joined_chars _ _ (rows_take (e - b) (rows_drop b f.rows)).valid

  row_chars : (r : ℕ) → r < 25 → every printable (row_text s r) ≡ true
  unfolding row_text
  row_chars r h = (row_at_facts r h f.rows).inside

  pub content_text : TextFacts (content s) (index s)
  unfolding content index
  content_text =
      let r : ℕ = s.head.cursor.row in
      let b : ℕ = start_of s r in
      let e : ℕ = end_of s r in
      let all : List ℕ = whole_rows s b e ++ take (reach s e) (row_text s e) in
      let p = span s r f.head.row in
      let last = every_take printable (reach s e) (row_text s e) (row_chars e (omega arith)) in
      let cut = every_take printable MAX-LOGICAL all (every_both printable _ _ (whole_chars b e) last) in
      record {
        chars = every_both printable (take MAX-LOGICAL all) _ cut (spaces (index s - length (take MAX-LOGICAL all)));
        fits = simp (length-append, length-replicate, length-take) (omega arith);
        within = simp (length-append, length-replicate, length-take) (omega arith);
      }

-- ---- the reading is no longer either

pub reading_fits : (s : Screen) (b e : ℕ) → length (reading s b e) ≤ MAX-LOGICAL
unfolding reading trim
reading_fits s b e =
    let all : List ℕ = whole_rows s b e ++ trim (row_text s e) in
    let cut : length (take MAX-LOGICAL all) ≤ MAX-LOGICAL = simp length-take (omega arith) in
    omega (arith, trim_le is_space (take MAX-LOGICAL all))

pub line_fits : (s : Screen) → length (line_text s) ≤ MAX-LOGICAL
unfolding line_text
line_fits s = reading_fits s _ _

-- ---- splice

-- a choice by two tests
and_cases : {A : Type 0} (P : A → Type 0) (a b : Bool) (x y : A) → (a ≡ true → P (if b then x else y)) → (a ≡ false → P y)
    → P (if a && b then x else y)
and_cases P true b x y f g = f refl
and_cases P false b x y f g = g refl

-- the four ways in which `rows_for` counts
rows_for_cases : (P : ℕ → Type 0) (w n i : ℕ) → (n ≡ 0 → P (max 1 ((n + w - 1) / w) + 0)) → (0 < n → i ≡ n → n % w ≡ 0 → P (max 1 ((n + w - 1) / w) + 1))
    → ((n % w ≡ 0 → ⊥) → P (max 1 ((n + w - 1) / w) + 0)) → ((i ≡ n → ⊥) → P (max 1 ((n + w - 1) / w) + 0)) → P (rows_for w n i)
unfolding rows_for
rows_for_cases P w n i none bonus short inner =
    let Q : ℕ → Type 0 = λ x. P (max 1 ((n + w - 1) / w) + x) in
    and_cases Q (ltb 0 n) (eqb i n && eqb (n % w) 0) 1 0
    (λ some.
    and_cases Q (eqb i n) (eqb (n % w) 0) 1 0
    (λ e. cases Q _ _ _ (λ d. bonus (ltb-true 0 n some) (eqb-true i n e) (eqb-true _ 0 d)) (λ d. short (eqb-false _ 0 d)))
    (λ e. inner (eqb-false i n e)))
    (λ e. none (omega (arith, ltb-false 0 n e)))

-- the cursor's row is among them, they are no more than the editable rows, and all but the last are full
pub record RowsForFacts (w n i k : ℕ) : Type 0 where
  pub holds : i / w < k
  pub most : k ≤ 24
  pub full : (k - 1) * w ≤ n

pub rows_for_facts : (w n i : ℕ) → (w ≡ 40) ⊎ (w ≡ 80) → n ≤ MAX-LOGICAL → i ≤ n → RowsForFacts w n i (rows_for w n i)
rows_for_facts w n i c h l =
    ⊎_elim
    (λ (q : w ≡ 40). rw q
    (rows_for_cases (RowsForFacts 40 n i) 40 n i (λ a. omega arith) (λ a b c. omega arith) (λ a. omega arith) (λ a. omega arith)))
    (λ (q : w ≡ 80). rw q
    (rows_for_cases (RowsForFacts 80 n i) 80 n i (λ a. omega arith) (λ a b c. omega arith) (λ a. omega arith) (λ a. omega arith)))
    c

pub line_rows_facts : (k w : ℕ) (a : Attr) (cs : List ℕ) → w ≤ 80 → every printable cs ≡ true → RowsFacts w k (line_rows k w a cs)
unfolding line_rows every
line_rows_facts zero w a cs h v = record { count = refl; valid = refl }
line_rows_facts (suc k) w a cs h v =
    let f : ℕ = if eqb k 0 then 0 else 1 in
    let flag : f ≤ 1 = either (λ (x : ℕ). x ≤ 1) (eqb k 0) _ _ (omega arith) (omega arith) in
    let fits : length (take w cs) ≤ w = simp length-take (omega arith) in
    rows_cons _ (row_valid w _ (line_row_facts w (take w cs) fits h a f flag (every_take printable w cs v)))
    (line_rows_facts k w a (drop w cs) h (every_drop printable w cs v))

-- k rows are kept, and blank rows fill up to e
filled : {w k e : ℕ} {old kept : List Row} (blank : Row) → RowsFacts w 25 old → RowsFacts w k kept → valid_row w blank ≡ true → e ≤ 25 → k ≤ e
    → Edited w e old (kept ++ (replicate (e - length kept) blank ++ drop e old))
filled {w = w} {e = e} {old = old} {kept = kept} blank f g v le h =
    let top = rows_append g (rows_replicate w (e - length kept) blank v) in
    subst (Edited w e old) (append_assoc kept (replicate (e - length kept) blank) (drop e old)) (edited_top f _ le (rows_count e (omega (arith, g)) top))

-- rows before and rows after, with n rows between them, are no more than e
rows_fit : (b e n x y : ℕ) → b < e → n ≤ e → x ≤ b - (b + n - e) → y ≤ e - (b + n) → x + (n + y) ≤ e
rows_fit b e n x y lt most p q = omega arith

-- of e editable rows, the rows b to d become the n rows `new`
pub spliced_rows_facts : {w n e : ℕ} {rows new : List Row} (b d : ℕ) (blank : Row) → RowsFacts w 25 rows → RowsFacts w n new → valid_row w blank ≡ true
    → e ≤ 25 → b < e → n ≤ e → Edited w e rows (spliced_rows rows e b d new blank)
unfolding spliced_rows
spliced_rows_facts {n = n} {e = e} b d blank f g v le lt most =
    let before = rows_drop (b + n - e) (rows_take b f) in
    let after = rows_take (e - (b + n)) (rows_drop (d + 1) (rows_take e f)) in
    rw g.count (filled blank f (rows_append before (rows_append g after)) v le (rows_fit b e n _ _ lt most (omega arith) (omega arith)))

-- the rows from b to d of a screen become the n rows `new`
pub respliced : (s : Screen) (b d n : ℕ) (new : List Row) → ScreenFacts s → RowsFacts s.head.width n new → b < editable s.head.keys → n ≤ 24
    → Edited s.head.width (editable s.head.keys) s.rows
    (spliced_rows s.rows (editable s.head.keys) b d new (blank_row s.head.width s.head.attr))
respliced s b d n new f g h most = spliced_rows_facts b d _ f.rows g (blank_of s f) f.head.edit_to h (omega arith)

module _ {P : Screen → Type 0} (k : Kept P) where
  pub spliced : (s : Screen) (cs : List ℕ) (i : ℕ) → P s → TextFacts cs i → P (splice s cs i)
  unfolding splice with_rows
  spliced s cs i p t =
      let f = k.facts s p in
      let u = span s s.head.cursor.row f.head.row in
      let n = rows_for_facts s.head.width (length cs) i f.head.widths t.fits t.within in
      let b : start_of s s.head.cursor.row < editable s.head.keys = omega arith in
      let new = line_rows_facts (rows_for s.head.width (length cs) i) s.head.width s.head.attr cs f.head.width_to t.chars in
      k.move _ _ (k.edit s _ p (respliced s _ _ _ _ f new b n.most)) (omega arith) (mod-lt i (omega arith))
