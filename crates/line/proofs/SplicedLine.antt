-- The line under the cursor after a splice: its span is the rows of the text that was spliced in, and its content is no longer than that text.
-- Assumes nothing.
use Prim.Native.Nat.{ℕ, zero, suc, ◌+◌, ◌-◌, ◌*◌, ◌/◌, ◌%◌, ◌≤◌, ◌<◌}
use mathlib.Core.Path.{◌≡◌, refl, sym, ap, ◌∙◌, subst}
use mathlib.Core.Bool.{true, false}
use mathlib.Core.List.{List, [], ◌∷◌, ◌++◌}
use native.Mathlib.Nat.{mul-le-mul_right, div-add-mod'}
use native.Mathlib.Omega.{arith}
use lib.Dec.{eqb}
use lib.ListN.{length, get_or, take, drop, replicate, length-append, length-take, length-drop, length-replicate, get_or-append}
use lib.Seq.{take-append-add, take_at}
use borrow.Author.Tests.{eqb-true, eq-eqb, ne_eqb}
use Rattle.std.specs.Prelude.{if◌then◌else◌}
use Rattle.octets.specs.Table.{tabulate}
use Rattle.std.proofs.lemmas.Bool.{cond-true as pick, cond-false as skip}
use Rattle.octets.proofs.Bools.{cases}
use Rattle.octets.proofs.Tables.{length_tabulate, get_d_tabulate}
use Rattle.grid.specs.Screen.{Row, Screen, with_rows, move_to, editable, no_row, row_at, blank_row, spaced, line_row, is_space, trim}
use Rattle.grid.specs.Facts.{ScreenFacts}
use Rattle.grid.proofs.Trim.{trim_run, trim_le}
use Rattle.line.specs.Line.{flagged, span_start, span_end, start_of, end_of, joined, row_text, whole_rows, index, reach, content}
use Rattle.line.specs.Splice.{rows_for, line_rows, spliced_rows, splice}
use Rattle.line.specs.Plan.{plan_of, line_flag, planned_row, planned_rows}
use Rattle.line.proofs.KeptLine.{SpanFacts, span, TextFacts, RowsForFacts, rows_for_facts}
use Rattle.line.proofs.PlanLaws.{planned_above, planned_line, length_lines, line_at}
use Rattle.line.proofs.SpliceLaws.{spliced_planned}

-- ---- the content of a line is no longer than n, if its rows and the index are not

joined_most : (w : ℕ) (rows : List Row) → length (joined w rows) ≤ length rows * w
unfolding joined
joined_most w [] = omega arith
joined_most w (x ∷ rows) =
    let ih = joined_most w rows in
    simp (length-append, length-take) (omega arith)

whole_most : (s : Screen) (b e : ℕ) → length (whole_rows s b e) ≤ (e - b) * s.head.width
unfolding whole_rows
whole_most s b e =
    let rows : List Row = take (e - b) (drop b s.rows) in
    let few : length rows ≤ e - b = simp length-take (omega arith) in
    let w : ℕ = s.head.width in
    omega (arith, joined_most w rows, mul-le-mul_right w few)

content_most : (s : Screen) (b e n : ℕ) → start_of s s.head.cursor.row ≡ b → end_of s s.head.cursor.row ≡ e
    → (e - b) * s.head.width + reach s e ≤ n → index s ≤ n → length (content s) ≤ n
unfolding content
content_most s b e n eb ee rows at =
    let whole = whole_most s b e in
    let part : length (whole_rows s b e ++ take (reach s e) (row_text s e)) ≤ n = simp (length-append, length-take) (omega arith) in
    rw (eb, ee) (simp (length-append, length-replicate, length-take) (omega arith))

-- ---- a span whose rows are known: n of them from row c on, all but the last flagged, and none above that leads into them

record OneLine (rows : List Row) (c n : ℕ) : Type 0 where
  pub above : (k : ℕ) → c ≡ suc k → flagged rows k ≡ false
  pub inner : (k : ℕ) → k + 1 < n → flagged rows (c + k) ≡ true
  pub last : (k : ℕ) → k + 1 ≡ n → flagged rows (c + k) ≡ false

module _ (rows : List Row) where
  no_higher : (c : ℕ) → ((k : ℕ) → c ≡ suc k → flagged rows k ≡ false) → span_start rows c ≡ c
  unfolding span_start
  no_higher zero above = refl
  no_higher (suc k) above = skip _ _ _ (above k refl)

  module _ (c n : ℕ) (one : OneLine rows c n) where
    up_to : (k : ℕ) → k < n → span_start rows (c + k) ≡ c
    unfolding span_start
    up_to zero h =
        let z : c + zero ≡ c = omega arith in
        ap (span_start rows) z ∙ no_higher c one.above
    up_to (suc k) h =
        let z : c + suc k ≡ suc (c + k) = omega arith in
        ap (span_start rows) z ∙ pick _ _ _ (one.inner k (omega arith)) ∙ up_to k (omega arith)

    -- j rows of the line follow row k of it, and m editable ones
    down_to : (j k m : ℕ) → k + j + 1 ≡ n → j ≤ m → span_end rows m (c + k) ≡ c + (n - 1)
    unfolding span_end
    down_to zero k zero e h = omega arith
    down_to zero k (suc m) e h = skip _ _ _ (one.last k (omega arith)) ∙ omega arith
    down_to (suc j) k zero e h = absurd (omega arith)
    down_to (suc j) k (suc m) e h =
        let z : suc (c + k) ≡ c + suc k = omega arith in
        pick _ _ _ (one.inner k (omega arith)) ∙ ap (span_end rows m) z ∙ down_to j (suc k) m (omega arith) (omega arith)

-- the row above the span of a row is not flagged
unflagged : (rows : List Row) (r k : ℕ) → span_start rows r ≡ suc k → flagged rows k ≡ false
unfolding span_start
unflagged rows zero k e = absurd (omega arith)
unflagged rows (suc r) k e =
    cases (λ (x : ℕ). x ≡ suc k → flagged rows k ≡ false) (flagged rows r) _ _ (λ t q. unflagged rows r k q)
    (λ t q. subst (λ (i : ℕ). flagged rows i ≡ false) (omega arith) t) e

-- ---- the text of a row that was written

trim_spaced : (w : ℕ) (xs : List ℕ) → length xs ≤ w → length (trim (take w (spaced w xs))) ≤ length xs
unfolding trim spaced is_space
trim_spaced w xs h =
    let k : ℕ = w - length xs in
    let e : w ≡ length xs + k = omega arith in
    let cut : take w (xs ++ (replicate k 32 ++ replicate (80 - w) 0)) ≡ xs ++ replicate k 32 =
    ap (λ (n : ℕ). take n (xs ++ (replicate k 32 ++ replicate (80 - w) 0))) e
    ∙ take-append-add xs (replicate k 32 ++ replicate (80 - w) 0) k
    ∙ ap (λ (r : List ℕ). xs ++ r) (take_at (replicate k 32) (replicate (80 - w) 0) k (length-replicate k 32)) in
    rw (cut, trim_run is_space k 32 xs refl) (trim_le is_space xs)

-- ---- the screen s, with the text cs spliced in and the cursor at its index i. e are the editable rows, b and d the first and the last row of the span under the
-- cursor, n the rows that the text takes

module _ (s : Screen) (cs : List ℕ) (i : ℕ) (f : ScreenFacts s) (t : TextFacts cs i) where
  w : ℕ
  w = s.head.width

  e : ℕ
  e = editable s.head.keys

  b : ℕ
  b = start_of s s.head.cursor.row

  d : ℕ
  d = end_of s s.head.cursor.row

  n : ℕ
  n = rows_for w (length cs) i

  new : List Row
  new = line_rows n w s.head.attr cs

  blank : Row
  blank = blank_row w s.head.attr

  rows : List Row
  rows = spliced_rows s.rows e b d new blank

  -- the line's first row
  top : ℕ
  top = b - (b + n - e)

  under : SpanFacts s s.head.cursor.row
  under = span s s.head.cursor.row f.head.row

  taken : RowsForFacts w (length cs) i n
  unfolding n w
  taken = rows_for_facts w (length cs) i f.head.widths t.fits t.within

  -- it begins inside, and so do all of its rows
  whole : top + n ≤ e
  unfolding top b d e
  whole = omega (arith, under, taken, f.head)

  planned : (k : ℕ) → k < e → row_at rows k ≡ planned_row s.rows new blank (plan_of b d n e) k
  unfolding row_at rows planned_rows plan_of b d e
  planned k h =
      let count : length new ≡ n = unfold new in length_lines n w s.head.attr cs in
      let g : ℕ → Row = planned_row s.rows new blank (plan_of b d n e) in
      let q : spliced_rows s.rows e b d new blank ≡ planned_rows s.rows new blank (plan_of b d n e) =
      rw count at (spliced_planned s.rows new blank e b d f.rows.count (omega (arith, under)) under.inside f.head.edit_to (omega (arith, count, taken, f.head))) in
      ap (λ (R : List Row). get_or R k no_row) q ∙ get_or-append (tabulate g e) (drop e s.rows) no_row k (omega (arith, length_tabulate g e)) ∙ get_d_tabulate g e k no_row h

  row_of : (k : ℕ) → k < n → row_at rows (top + k) ≡ line_row w s.head.attr (line_flag k n) (take w (drop (k * w) cs))
  unfolding plan_of top new
  row_of k h =
      let p = plan_of b d n e in
      let z : top + k - top ≡ k = omega arith in
      planned (top + k) (omega (arith, whole)) ∙ planned_line s.rows new blank p (top + k) (omega arith) (omega arith) ∙ ap (row_at new) z ∙ line_at n w s.head.attr cs k h

  -- the row above it is the one that was above the span
  above_it : (k : ℕ) → top ≡ suc k → flagged rows k ≡ false
  unfolding plan_of top b start_of flagged
  above_it k q =
      let p = plan_of b d n e in
      let j : ℕ = k + (b + n - e) in
      let row : row_at rows k ≡ row_at s.rows j = planned k (omega (arith, whole)) ∙ planned_above s.rows new blank p k (omega arith) in
      rw row (unflagged s.rows s.head.cursor.row j (omega arith))

  flag_of : (k : ℕ) → k < n → (row_at rows (top + k)).flag ≡ line_flag k n
  unfolding line_row
  flag_of k h = ap (λ (x : Row). x.flag) (row_of k h)

  one_line : OneLine rows top n
  unfolding flagged line_flag
  one_line =
      record {
        above = above_it;
        inner = λ k h. eq-eqb (row_at rows (top + k)).flag 1 (flag_of k (omega arith) ∙ skip _ _ _ (ne_eqb (k + 1) n (λ q. omega arith)));
        last = λ k h.
            let none : (row_at rows (top + k)).flag ≡ 0 = flag_of k (omega arith) ∙ pick _ _ _ (eq-eqb (k + 1) n h) in
            ne_eqb (row_at rows (top + k)).flag 1 (λ q. omega arith);
      }

  -- ---- its span

  starts : start_of (splice s cs i) (splice s cs i).head.cursor.row ≡ top
  unfolding splice move_to with_rows start_of
  starts = unfold w e b d n new blank rows top in up_to rows top n one_line (i / w) taken.holds

  ends : end_of (splice s cs i) (splice s cs i).head.cursor.row ≡ top + (n - 1)
  unfolding splice move_to with_rows end_of
  ends = unfold w e b d n new blank rows top in down_to rows top n one_line (n - 1 - i / w) (i / w) (e - 1 - (top + i / w)) (omega (arith, taken)) (omega (arith, whole, taken))

  -- ---- its content

  wide : (splice s cs i).head.width ≡ w
  unfolding splice move_to with_rows w
  wide = refl

  in_row : (splice s cs i).head.cursor.row ≡ top + i / w
  unfolding splice move_to with_rows w e b n top
  in_row = refl

  in_column : (splice s cs i).head.cursor.col ≡ i % w
  unfolding splice move_to with_rows w
  in_column = refl

  holds : (splice s cs i).rows ≡ rows
  unfolding splice move_to with_rows w e b d n new blank rows
  holds = refl

  -- how far its last row reaches, by its text and by the cursor's column
  last_text : length (trim (take w (row_at rows (top + (n - 1))).chars)) ≤ length cs - (n - 1) * w
  unfolding line_row
  last_text =
      let xs : List ℕ = take w (drop ((n - 1) * w) cs) in
      let fits : length xs ≤ w = simp length-take (omega arith) in
      let few : length xs ≤ length cs - (n - 1) * w = simp (length-take, length-drop) (omega arith) in
      rw (row_of (n - 1) (omega (arith, taken))) (omega (arith, trim_spaced w xs fits, few))

  column : (if eqb (top + i / w) (top + (n - 1)) then i % w else 0) ≤ length cs - (n - 1) * w
  column =
      cases (λ (x : ℕ). x ≤ length cs - (n - 1) * w) (eqb (top + i / w) (top + (n - 1))) (i % w) 0
      (λ q.
      let r : i / w ≡ n - 1 = omega (arith, eqb-true (top + i / w) (top + (n - 1)) q) in
      let m : i / w * w + i % w ≡ i = div-add-mod' i w in
      let m' : (n - 1) * w + i % w ≡ i = rw r at m in
      omega (arith, t.within))
      (λ _. omega arith)

  reaches : reach (splice s cs i) (top + (n - 1)) ≤ length cs - (n - 1) * w
  unfolding reach row_text
  reaches = rw (wide, holds, in_row, in_column) (omega (arith, last_text, column))

  at_index : index (splice s cs i) ≤ length cs
  unfolding index
  at_index =
      let z : top + i / w - top ≡ i / w = omega arith in
      rw (starts, wide, in_row, in_column, z) (omega (arith, t.within, div-add-mod' i w))

  pub spliced_content : length (content (splice s cs i)) ≤ length cs
  spliced_content =
      let far : ℕ = reach (splice s cs i) (top + (n - 1)) in
      let z : n - 1 ≡ top + (n - 1) - top = omega arith in
      let most : (n - 1) * w + far ≤ length cs = omega (arith, reaches, taken.full) in
      let there : (top + (n - 1) - top) * w + far ≤ length cs = subst (λ (k : ℕ). k * w + far ≤ length cs) z most in
      content_most (splice s cs i) top (top + (n - 1)) (length cs) starts ends
      (subst (λ (k : ℕ). (top + (n - 1) - top) * k + far ≤ length cs) (sym wide) there) at_index
