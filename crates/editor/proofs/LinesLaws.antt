-- `lines`: the keys that take out, join, submit or end a logical line. l is the record, s the screen that is read, m what is left and g the head that is handed back.
-- Assumes nothing.
use Prim.Native.Nat.{ℕ, ◌+◌, ◌-◌, ◌*◌, ◌≤◌, ◌<◌}
use mathlib.Core.Path.{◌≡◌, sym, ap, ap₂, ◌∙◌, subst}
use mathlib.Core.Bool.{Bool, true, false, ◌&&◌}
use mathlib.Core.List.{List}
use native.Mathlib.Omega.{arith}
use lib.Dec.{leb, ltb, eqb}
use lib.ListN.{length, take, set}
use borrow.Author.Tests.{eq-eqb, ne_eqb, lt-ltb, le-ltb, le-leb, lt-leb, ltb-true}
use Rattle.grid.specs.Layout.{SIZE}
use Rattle.grid.specs.Screen.{Row, Screen, flag_row, set_flag, with_cursor, with_rows, move_to, editable, is_empty, trim}
use Rattle.values.specs.Cursor.{at}
use Rattle.grid.specs.Record.{row_of, rows_of, screen_with, Becomes, Leaves}
use Rattle.grid.specs.Facts.{HeadFacts, Known}
use Rattle.values.specs.declared.cursor.Cursor.{Cursor}
use Rattle.grid.specs.declared.head.Head.{Head}
use Rattle.octets.proofs.Bools.{and_left}
use Rattle.grid.proofs.ScreenLaws.{head_seen}
use Rattle.line.specs.Line.{MAX-LOGICAL, start_of, end_of, reading, line_text}
use Rattle.line.specs.Given.{SpanOf}
use Rattle.line.specs.Text.{Reads}
use Rattle.line.specs.declared.text.Reading.{Reading}
use Rattle.line.proofs.CharsLaws.{text_seen}
use Rattle.editor.specs.declared.pen.Pen.{Pen}
use Rattle.editor.specs.declared.print.Went.{Went}
use Rattle.editor.specs.Print.{row_is_blank, next_row}
use Rattle.editor.specs.Lines.{ctrl_enter, take_logical_line, too_long, on_blank_end}
use Rattle.editor.specs.Call.{CtrlEnter, rule, apply}
use Rattle.editor.specs.Given.{Advances}
use Rattle.editor.proofs.PrintLaws.{row_is}
use Rattle.editor.proofs.TypingLaws.{still}

-- ---- too_long, on_blank_end: u is the line's screen, with the head h and the rows of the record r; start to end is the span of the cursor's row

module _ (r : List ℕ) (h : Head) (u s : Screen) (is : screen_with h r ≡ u) (same : u ≡ s) (start end : ℕ) (span : SpanOf u u.head.cursor.row start end) where
  head_is : u.head ≡ h
  head_is = sym (head_seen r h u is)

  row₀ : u.head.cursor.row ≡ h.cursor.row
  row₀ = ap (λ (x : Head). x.cursor.row) head_is

  start₀ : start_of u u.head.cursor.row ≡ start
  start₀ = sym span.first

  end₀ : end_of u u.head.cursor.row ≡ end
  end₀ = sym span.last

  pub not_last : (h.cursor.row ≡ end → ⊥) → false ≡ too_long s
  unfolding too_long
  not_last ne =
      let a : eqb u.head.cursor.row (end_of u u.head.cursor.row) ≡ false = ap₂ eqb row₀ end₀ ∙ ne_eqb h.cursor.row end ne in
      subst (λ (x : Screen). false ≡ too_long x) same (rw a)

  -- first to last is the span of the next row, t its reading
  pub long_tested : (first last : ℕ) (t : Reading) → h.cursor.row ≡ end → SpanOf u (h.cursor.row + 1) first last → Reads t (reading u (h.cursor.row + 1) last)
      → ltb MAX-LOGICAL ((h.cursor.row - start + 1) * h.width + t.len) ≡ too_long s
  unfolding too_long
  long_tested first last t e next reads =
      let a : eqb u.head.cursor.row (end_of u u.head.cursor.row) ≡ true = ap₂ eqb row₀ end₀ ∙ eq-eqb _ _ e in
      let w : u.head.width ≡ h.width = ap (λ (x : Head). x.width) head_is in
      let n : length (reading u (u.head.cursor.row + 1) (end_of u (u.head.cursor.row + 1))) ≡ t.len =
      ap (λ (k : ℕ). length (reading u (k + 1) (end_of u (k + 1)))) row₀
      ∙ ap (λ (z : ℕ). length (reading u (h.cursor.row + 1) z)) (sym next.last) ∙ sym reads.count in
      sym (λ i. a i && ltb MAX-LOGICAL ((row₀ i - start₀ i + 1) * w i + n i)) ∙ ap too_long same

  -- b is what row_is_blank has answered of the row x, and t the code's answer
  pub span_short : (t : Bool) → t ≡ false → end ≤ start → t ≡ on_blank_end s
  unfolding on_blank_end
  span_short t fails k = subst (λ (x : Screen). t ≡ on_blank_end x) same (rw (start₀, end₀, le-ltb start end k) fails)

  module _ (known : Known r h) (below : end < 25) (x : Row) (b : Bool) (row : x ≡ row_of r end) (eb : b ≡ is_empty (trim (take h.width x.chars))) (more : start < end) where
    blank_is : row_is_blank u end ≡ b
    unfolding row_is_blank
    blank_is = ap (λ (cs : List ℕ). is_empty (trim cs)) (sym (text_seen r h u known is x end below row)) ∙ sym eb

    pub not_blank : (t : Bool) → t ≡ false → t ≡ b → t ≡ on_blank_end s
    unfolding on_blank_end
    not_blank t fails eq =
        subst (λ (x : Screen). t ≡ on_blank_end x) same (rw (start₀, end₀, lt-ltb start end more, blank_is, ← eq, fails))

    pub blank_there : (v t : Bool) (c : Cursor) → v ≡ b → v ≡ true → c ≡ at end 0 → t ≡ (eqb h.cursor.row c.row && eqb h.cursor.col c.col) → t ≡ on_blank_end s
    unfolding on_blank_end
    blank_there v t c eq holds ec e =
        let col : u.head.cursor.col ≡ h.cursor.col = ap (λ (x : Head). x.cursor.col) head_is in
        subst (λ (x : Screen). t ≡ on_blank_end x) same
        (rw (start₀, end₀, lt-ltb start end more, blank_is, sym eq ∙ holds, row₀, col)
        (e ∙ ap (λ (x : Cursor). eqb h.cursor.row x.row && eqb h.cursor.col x.col) ec))

-- ---- a flag set in a record that has the screen's rows

flag_left : (l m : List ℕ) (s : Screen) (r f : ℕ) → rows_of l ≡ s.rows → r < 25 → Becomes l m (set (rows_of l) r (flag_row f (row_of l r)))
    → Becomes l m (set_flag s.rows r f)
unfolding set_flag
flag_left l m s r f e h b =
    let k : set (rows_of l) r (flag_row f (row_of l r)) ≡ set_flag s.rows r f =
    ap (λ (x : Row). set (rows_of l) r (flag_row f x)) (sym (row_is l r h)) ∙ ap (λ (x : List Row). set_flag x r f) e in
    record { size = b.size; front = b.front; rows = b.rows ∙ k }

-- ---- ctrl_enter: the screen has the head h and the rows of the record r

module _ (l r : List ℕ) (h : Head) (s : Screen) (e : ℕ) (is : screen_with h r ≡ s) (rows : rows_of l ≡ s.rows) (ie : e ≡ editable h.keys) where
  head_to : h ≡ s.head
  head_to = head_seen r h s is

  pub ctrl_last : length l ≡ SIZE → e ≤ h.cursor.row + 1 → Leaves (apply CtrlEnter s) l l h
  unfolding apply rule ctrl_enter
  ctrl_last size k =
      rw (le-leb (editable s.head.keys) (s.head.cursor.row + 1) (subst (λ (x : Head). editable x.keys ≤ x.cursor.row + 1) head_to (omega arith)))
      (still s size rows head_to)

  module _ (u : Screen) (t : Bool) (k : h.cursor.row + 1 < e) (same : u ≡ s) (long : t ≡ too_long u) where
    next : leb (editable s.head.keys) (s.head.cursor.row + 1) ≡ false
    next = lt-leb _ _ (subst (λ (x : Head). x.cursor.row + 1 < editable x.keys) head_to (omega arith))

    long_is : too_long s ≡ t
    long_is = sym (long ∙ ap too_long same)

    pub ctrl_held : length l ≡ SIZE → t ≡ true → Leaves (apply CtrlEnter s) l l h
    unfolding apply rule ctrl_enter
    ctrl_held size y = rw (next, long_is ∙ y) (still s size rows head_to)

    pub ctrl_done : (m : List ℕ) (g : Head) (c : Cursor) → t ≡ false → HeadFacts h → Becomes l m (set (rows_of l) h.cursor.row (flag_row 1 (row_of l h.cursor.row)))
        → c ≡ at (h.cursor.row + 1) 0 → g ≡ with_cursor h c → Leaves (apply CtrlEnter s) l m g
    unfolding apply rule ctrl_enter move_to with_rows
    ctrl_done m g c n f b ec eg =
        let low : h.cursor.row < 25 = omega arith in
        let q : Leaves (record { head = with_cursor h (at (h.cursor.row + 1) 0); rows = set_flag s.rows h.cursor.row 1 }) l m g =
        record { becomes = flag_left l m s h.cursor.row 1 rows low b; head = eg ∙ ap (with_cursor h) ec } in
        rw (next, long_is ∙ n)
        (subst (λ (x : Head). Leaves (record { head = with_cursor x (at (x.cursor.row + 1) 0); rows = set_flag s.rows x.cursor.row 1 }) l m g) head_to q)

-- ---- take_logical_line: u is the screen of the line v, start to end its span, and t what on_blank_end has answered

module _ (l : List ℕ) (u v s : Screen) (line : u ≡ v) (same : v ≡ s) (start end : ℕ) (span : SpanOf u u.head.cursor.row start end) (t : Bool)
    (is : t ≡ on_blank_end v) where
  end_is : end_of s s.head.cursor.row ≡ end
  end_is = sym (span.last ∙ ap (λ (x : Screen). end_of x x.head.cursor.row) (line ∙ same))

  blank_end : on_blank_end s ≡ t
  blank_end = sym (is ∙ ap on_blank_end same)

  pub end_low : t ≡ true → 1 ≤ end
  unfolding on_blank_end
  end_low y =
      let b : ltb (start_of s s.head.cursor.row) (end_of s s.head.cursor.row) ≡ true = and_left _ _ (blank_end ∙ y) in
      omega (arith, ltb-true _ _ b, end_is)

  module _ (rows : rows_of l ≡ s.rows) (m : List ℕ) where
    pub take_cleared : (r : List ℕ) (h : Head) → t ≡ true → screen_with h r ≡ s → HeadFacts h → end < 25
        → Becomes l m (set (rows_of l) (end - 1) (flag_row 0 (row_of l (end - 1)))) → Leaves (take_logical_line s) l m h
    unfolding take_logical_line with_rows
    take_cleared r h y seen f low b =
        rw (blank_end ∙ y, end_is) (record { becomes = flag_left l m s (end - 1) 0 rows (omega arith) b; head = head_seen r h s seen })

    pub take_next : (p q : Pen) (w : Went) → t ≡ false → p.head ≡ s.head → q.head ≡ with_cursor p.head (at end 0)
        → Advances (next_row (screen_with q.head l)) l m w → Leaves (take_logical_line s) l m w.pen.head
    unfolding take_logical_line move_to
    take_next p q w n start moved left =
        let e : screen_with q.head l ≡ record { head = with_cursor s.head (at end 0); rows = s.rows } =
        λ i. record { head = (moved ∙ ap (λ (x : Head). with_cursor x (at end 0)) start) i; rows = rows i } in
        rw (blank_end ∙ n, end_is) (subst (λ (x : Screen). Leaves (next_row x).screen l m w.pen.head) e (record { becomes = left.becomes; head = left.head }))

-- ---- line_text: u is the screen of the line v, start to end its span, and t its reading

pub line_read : (u v s : Screen) (start end : ℕ) (t : Reading) → u ≡ v → v ≡ s → SpanOf u u.head.cursor.row start end → Reads t (reading s start end)
    → Reads t (line_text s)
unfolding line_text
line_read u v s start end t line same span reads =
    let b : start_of s s.head.cursor.row ≡ start = sym (span.first ∙ ap (λ (x : Screen). start_of x x.head.cursor.row) (line ∙ same)) in
    let d : end_of s s.head.cursor.row ≡ end = sym (span.last ∙ ap (λ (x : Screen). end_of x x.head.cursor.row) (line ∙ same)) in
    rw (b, d) reads
