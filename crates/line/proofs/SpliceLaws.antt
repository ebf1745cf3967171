-- The planned rows are those of `spliced_rows`, and what the functions that splice leave.
-- Assumes nothing.
use Prim.Native.Nat.{ℕ, ◌+◌, ◌-◌, ◌/◌, ◌%◌, ◌≤◌, ◌<◌, min}
use mathlib.Core.Path.{◌≡◌, sym, ap, ap₂, ◌∙◌, subst}
use mathlib.Core.List.{List, [], ◌++◌, append_assoc}
use native.Mathlib.Nat.{div-le_self}
use native.Mathlib.Decide.{dec_lt}
use native.Mathlib.Omega.{arith}
use lib.ListN.{length, get_or, take, drop, replicate, length-append, length-take, length-drop, length-replicate, get_or-replicate, get_or-append}
use lib.Seq.{get_or-take, get_or-drop, get_or-append-add, ext_get_or}
use mir.Syntax.{w64}
use mir.Val.{Fits}
use Rattle.grid.specs.Screen.{Row, Screen, with_cursor, with_rows, move_to, editable, no_row, row_at, blank_row}
use Rattle.values.specs.Cursor.{at}
use Rattle.octets.specs.Table.{tabulate}
use Rattle.grid.specs.Record.{rows_of, screen_with, Becomes, Leaves}
use Rattle.values.specs.declared.cursor.Cursor.{Cursor}
use Rattle.grid.specs.declared.head.Head.{Head}
use Rattle.octets.proofs.Tables.{length_tabulate, get_d_tabulate}
use Rattle.grid.proofs.RowLaws.{length_rows}
use Rattle.line.specs.Line.{MAX-LOGICAL, start_of, end_of}
use Rattle.line.specs.Splice.{rows_for, line_rows, spliced_rows, splice, without_rows}
use Rattle.line.specs.Given.{SpanOf}
use Rattle.line.specs.Text.{text_of}
use Rattle.line.specs.Plan.{Count, plan_of, Laid, planned_row, planned_rows}
use Rattle.line.specs.declared.text.Text.{Text}
use Rattle.line.specs.declared.plan.Plan.{Plan}
use Rattle.line.proofs.TextLaws.{length_text}
use Rattle.grid.proofs.ScreenLaws.{head_seen}
use Rattle.line.proofs.PlanLaws.{plan_laid, planned_above, length_lines, planned_line, planned_below, planned_blank}
use Rattle.grid.specs.Facts.{HeadFacts, Known}

module _ (rows new : List Row) (blank : Row) (e b d : ℕ) (size : length rows ≡ 25) (h₁ : b ≤ d) (h₂ : d < e) (h₃ : e ≤ 25) (h₄ : length new ≤ e) where
  n : ℕ
  n = length new

  before : List Row
  before = drop (b + n - e) (take b rows)

  after : List Row
  after = take (e - (b + n)) (drop (d + 1) (take e rows))

  kept : List Row
  kept = before ++ (new ++ after)

  blanks : List Row
  blanks = replicate (e - length kept) blank

  top : ℕ
  top = b - (b + n - e)

  length_before : length before ≡ top
  unfolding before top
  length_before = simp (length-drop, length-take) (omega arith)

  length_after : length after ≡ min (e - (b + n)) (e - (d + 1))
  unfolding after
  length_after = simp (length-take, length-drop) (omega arith)

  length_kept : length kept ≡ top + n + length after
  unfolding kept n
  length_kept = simp length-append (omega (arith, length_before))

  kept_to : length kept ≤ e
  unfolding top n
  kept_to = omega (arith, length_kept, length_after)

  length_lead : length (kept ++ blanks) ≡ e
  unfolding blanks
  length_lead = simp (length-append, length-replicate) (omega (arith, kept_to))

  -- a row of those before, of the new ones, of those after, and a blank one
  at_before : (r : ℕ) → r < top → get_or kept r no_row ≡ row_at rows (r + (b + n - e))
  unfolding kept before top row_at
  at_before r h =
      let q : b + n - e + r ≡ r + (b + n - e) = omega arith in
      get_or-append before (new ++ after) no_row r (omega (arith, length_before))
      ∙ get_or-drop (b + n - e) (take b rows) r no_row ∙ get_or-take b rows (b + n - e + r) no_row (omega arith) ∙ ap (λ (i : ℕ). get_or rows i no_row) q

  at_new : (j : ℕ) → j < n → get_or kept (length before + j) no_row ≡ row_at new j
  unfolding kept row_at n
  at_new j h = get_or-append-add before (new ++ after) j no_row ∙ get_or-append new after no_row j h

  at_after : (j : ℕ) → j < length after → get_or kept (length before + (length new + j)) no_row ≡ row_at rows (d + 1 + j)
  unfolding kept after row_at
  at_after j h =
      get_or-append-add before (new ++ after) (length new + j) no_row ∙ get_or-append-add new after j no_row
      ∙ get_or-take (e - (b + n)) (drop (d + 1) (take e rows)) j no_row (omega (arith, length_after)) ∙ get_or-drop (d + 1) (take e rows) j no_row
      ∙ get_or-take e rows (d + 1 + j) no_row (omega (arith, length_after))

  in_after : (j : ℕ) → top + n + j < e → d + 1 + j < e → j < length after
  unfolding top n
  in_after j h k = omega (arith, length_after)

  past_after : (j : ℕ) → e ≤ d + 1 + j → length after ≤ j
  past_after j k = omega (arith, length_after)

  lead_at : (r : ℕ) → r < e → get_or (kept ++ blanks) r no_row ≡ planned_row rows new blank (plan_of b d (length new) e) r
  unfolding plan_of top n blanks
  lead_at r h = first (dec_lt r top)
    where
      p : Plan
      p = plan_of b d (length new) e

      in_kept : r < length kept → get_or (kept ++ blanks) r no_row ≡ get_or kept r no_row
      in_kept q = get_or-append kept blanks no_row r q

      third : (j : ℕ) → r ≡ top + n + j → Dec (d + 1 + j < e) → get_or (kept ++ blanks) r no_row ≡ planned_row rows new blank p r
      third j q (yes s) =
          let i : j < length after = in_after j (omega arith) s in
          let u : r ≡ length before + (length new + j) = omega (arith, length_before) in
          let v : d + 1 + j ≡ d + 1 + (r - (top + n)) = omega arith in
          in_kept (omega (arith, length_kept)) ∙ ap (λ (i : ℕ). get_or kept i no_row) u ∙ at_after j i ∙ ap (row_at rows) v
          ∙ sym (planned_below rows new blank p r (omega arith) (omega arith) (omega arith))
      third j q (no s) =
          let i : length after ≤ j = past_after j (omega arith) in
          let u : r ≡ length kept + (j - length after) = omega (arith, length_kept) in
          ap (λ (i : ℕ). get_or (kept ++ blanks) i no_row) u ∙ get_or-append-add kept blanks (j - length after) no_row
          ∙ get_or-replicate (e - length kept) (j - length after) blank no_row (omega arith)
          ∙ sym (planned_blank rows new blank p r (omega arith) (omega arith) (omega arith))

      second : (j : ℕ) → r ≡ top + j → Dec (j < n) → get_or (kept ++ blanks) r no_row ≡ planned_row rows new blank p r
      second j q (yes s) =
          let u : r ≡ length before + j = omega (arith, length_before) in
          let v : j ≡ r - top = omega arith in
          in_kept (omega (arith, length_kept)) ∙ ap (λ (i : ℕ). get_or kept i no_row) u ∙ at_new j s ∙ ap (row_at new) v
          ∙ sym (planned_line rows new blank p r (omega arith) (omega arith))
      second j q (no s) = third (j - n) (omega arith) (dec_lt (d + 1 + (j - n)) e)

      first : Dec (r < top) → get_or (kept ++ blanks) r no_row ≡ planned_row rows new blank p r
      first (yes s) = in_kept (omega (arith, length_kept)) ∙ at_before r s ∙ sym (planned_above rows new blank p r s)
      first (no s) = second (r - top) (omega arith) (dec_lt (r - top) n)

  pub spliced_planned : spliced_rows rows e b d new blank ≡ planned_rows rows new blank (plan_of b d (length new) e)
  unfolding spliced_rows planned_rows kept before after blanks n plan_of
  spliced_planned =
      let f : ℕ → Row = planned_row rows new blank (plan_of b d (length new) e) in
      let t : kept ++ blanks ≡ tabulate f e =
      ext_get_or no_row (kept ++ blanks) (tabulate f e) (length_lead ∙ sym (length_tabulate f e))
      (λ i q.
      let h : i < e = omega (arith, length_lead) in
      lead_at i h ∙ sym (get_d_tabulate f e i no_row h)) in
      sym (append_assoc kept blanks (drop e rows)) ∙ ap (λ (x : List Row). x ++ drop e rows) t

-- ---- head_in: h is the head of the screen s, in the record r

pub cursor_fits : (h : Head) (p : Plan) (i : ℕ) → HeadFacts h → Laid p → i ≤ MAX-LOGICAL → Fits w64 (p.top + i / h.width)
cursor_fits h p i f l n = record { fits = omega (arith, l, div-le_self i h.width) }

pub head_placed : (r : List ℕ) (h g : Head) (s : Screen) (p : Plan) (i : ℕ) (c : Cursor) → screen_with h r ≡ s → c ≡ at (p.top + i / h.width) (i % h.width)
    → g ≡ with_cursor h c → g ≡ with_cursor s.head (at (p.top + i / s.head.width) (i % s.head.width))
head_placed r h g s p i c e ec eg =
    eg ∙ ap (with_cursor h) ec ∙ ap (λ (x : Head). with_cursor x (at (p.top + i / x.width) (i % x.width))) (head_seen r h s e)

-- ---- splice_logical, remove_line: the screen s of the record l is a line's screen u

pub same_rows : (l : List ℕ) (s u : Screen) → rows_of l ≡ s.rows → u ≡ s → rows_of l ≡ u.rows
same_rows l s u e line = e ∙ ap (λ (x : Screen). x.rows) (sym line)

-- h is the head of the screen u, in the record r, and p is the plan for k rows in the place of the span of the cursor's row
module _ (r : List ℕ) (h : Head) (u : Screen) (b d e k : ℕ) (p : Plan) (is : screen_with h r ≡ u) (known : Known r h) (ee : e ≡ editable h.keys)
    (sp : SpanOf u u.head.cursor.row b d) (ep : p ≡ plan_of b d k e) where
  editing : editable u.head.keys ≡ e
  editing = sym (ee ∙ ap (λ (x : Head). editable x.keys) (head_seen r h u is))

  below : d < e
  below = omega (arith, editing)

  pub line_laid : k ≤ 8 → Laid p
  line_laid most = rw ep (plan_laid b d k e (omega arith) below (omega arith) (omega arith) most)

  -- the rows by the plan, of the characters cs
  replaced : (cs : List ℕ) → k ≤ 8 → planned_rows u.rows (line_rows p.lines u.head.width u.head.attr cs) (blank_row u.head.width u.head.attr) p
      ≡ spliced_rows u.rows e b d (line_rows k u.head.width u.head.attr cs) (blank_row u.head.width u.head.attr)
  unfolding plan_of
  replaced cs most =
      let size : length u.rows ≡ 25 = ap (λ (x : Screen). length x.rows) (sym is) ∙ length_rows r in
      let new : List Row = line_rows k u.head.width u.head.attr cs in
      let n : length new ≡ k = length_lines k u.head.width u.head.attr cs in
      rw ep (sym (rw n at (spliced_planned u.rows new (blank_row u.head.width u.head.attr) e b d size (omega arith) below (omega arith) (omega arith))))

-- what a screen with other rows and another cursor leaves
left : (l m : List ℕ) (g : Head) (R : List Row) (s : Screen) → Becomes l m R → R ≡ s.rows → g ≡ s.head → Leaves s l m g
left l m g R s x e q = record { becomes = record { size = x.size; front = x.front; rows = x.rows ∙ e }; head = q }

pub line_removed : (r l m : List ℕ) (h g : Head) (s u : Screen) (b d e : ℕ) (p : Plan) (c : Cursor) → u ≡ s → screen_with h r ≡ u → Known r h → e ≡ editable h.keys
    → SpanOf u u.head.cursor.row b d → p ≡ plan_of b d 0 e
    → Becomes l m (planned_rows u.rows (line_rows p.lines u.head.width u.head.attr []) (blank_row u.head.width u.head.attr) p) → c ≡ at b 0 → g ≡ with_cursor h c
    → Leaves (without_rows s (start_of s s.head.cursor.row) (end_of s s.head.cursor.row)) l m g
unfolding without_rows move_to with_rows line_rows
line_removed r l m h g s u b d e p c line is known ee sp ep x ec eg =
    subst (λ (y : Screen). Leaves (without_rows y (start_of y y.head.cursor.row) (end_of y y.head.cursor.row)) l m g) line
    (left l m g _ (without_rows u (start_of u u.head.cursor.row) (end_of u u.head.cursor.row)) x
    (rw (← sp.first, ← sp.last, editing r h u b d e 0 p is known ee sp ep) (replaced r h u b d e 0 p is known ee sp ep [] (omega arith)))
    (rw (← sp.first) (eg ∙ ap₂ with_cursor (head_seen r h u is) ec)))

pub text_spliced : (r l m : List ℕ) (h g : Head) (s u : Screen) (b d e k : ℕ) (p : Plan) (t : Text) → u ≡ s → screen_with h r ≡ u → Known r h → e ≡ editable h.keys
    → SpanOf u u.head.cursor.row b d → Count h.width t.len t.index k → p ≡ plan_of b d k e
    → Becomes l m (planned_rows u.rows (line_rows p.lines u.head.width u.head.attr (take t.len t.bytes)) (blank_row u.head.width u.head.attr) p)
    → g ≡ with_cursor u.head (at (p.top + t.index / u.head.width) (t.index % u.head.width)) → Leaves (splice s (text_of t) t.index) l m g
unfolding splice move_to with_rows plan_of text_of
text_spliced r l m h g s u b d e k p t line is known ee sp count ep x eg =
    let n : rows_for u.head.width (length (take t.len t.bytes)) t.index ≡ k =
    ap₂ (λ (w i : ℕ). rows_for w i t.index) (sym (ap (λ (y : Head). y.width) (head_seen r h u is))) (length_text t) ∙ sym count.is in
    let edit = editing r h u b d e k p is known ee sp ep in
    subst (λ (y : Screen). Leaves (splice y (text_of t) t.index) l m g) line
    (left l m g _ (splice u (text_of t) t.index) x
    (rw (← sp.first, ← sp.last, n, edit) (replaced r h u b d e k p is known ee sp ep (take t.len t.bytes) count.high))
    (rw (← sp.first, n, edit) (rw ep at eg)))
