-- The plan: each row that the code writes is the planned one.
-- Assumes nothing.
use Prim.Native.Nat.{ℕ, zero, suc, ◌+◌, ◌-◌, ◌*◌, ◌≤◌, ◌<◌, min}
use mathlib.Core.Path.{◌≡◌, refl, sym, ap, ap₂, ◌∙◌}
use mathlib.Core.Bool.{Bool}
use mathlib.Core.List.{List, ◌∷◌, ◌++◌}
use mathlib.Core.Logic.{◌⊎◌, inl, inr}
use native.Mathlib.Nat.{not-suc-le-zero, le_of_suc-le-suc}
use native.Mathlib.Numerals.{add-one}
use native.Mathlib.Decide.{ℕ_discrete, dec_lt}
use native.Mathlib.Omega.{arith}
use lib.Dec.{eqb}
use lib.ListN.{length, get_or, take, drop, set, length-drop, drop_of_length-le}
use Rattle.std.proofs.lemmas.List.{take_min}
use lib.Seq.{take-nil, drop-drop, drop-cons, get_or_at, set_at, set-get_or, append_snoc}
use borrow.Author.Tests.{lt-ltb, le-ltb, eq-eqb, ne_eqb}
use Rattle.grid.specs.Layout.{SIZE}
use Rattle.std.specs.Prelude.{if◌then◌else◌}
use Rattle.grid.specs.Screen.{Row, Screen, no_row, row_at, blank_row, line_row}
use Rattle.octets.specs.Part.{window}
use Rattle.grid.specs.Record.{row_of, rows_of, screen_with, Becomes}
use Rattle.grid.specs.declared.head.Head.{Head}
use Rattle.octets.specs.Table.{tabulate}
use Rattle.values.specs.declared.attr.Attr.{Attr}
use Rattle.std.proofs.lemmas.Bool.{cond-true as pick, cond-false as skip}
use Rattle.octets.proofs.PartLaws.{part_window}
use Rattle.octets.proofs.Tables.{length_tabulate}
use Rattle.grid.proofs.ScreenLaws.{head_seen, row_seen}
use Rattle.grid.proofs.RowLaws.{length_rows, get_d_rows, and_then}
use Rattle.line.specs.Splice.{line_rows}
use Rattle.line.specs.Plan.{plan_of, Laid, ChangedTo, line_flag, planned_row, planned_rows}
use Rattle.line.specs.declared.plan.Plan.{Plan}

-- ---- plan_of

pub plan_made : (b d k e over : ℕ) → over ≡ b + k - e → record { top = b - over; over = over; lines = k; next = d + 1; rows = e } ≡ plan_of b d k e
unfolding plan_of
plan_made b d k e over h = rw h

pub plan_laid : (b d k e : ℕ) → b ≤ d → d < e → 24 ≤ e → e ≤ 25 → k ≤ 8 → Laid (plan_of b d k e)
unfolding plan_of
plan_laid b d k e h₁ h₂ h₃ h₄ h₅ = record { rows_most = omega arith; whole = omega arith; over_to = omega arith; next_to = omega arith }

-- ---- the planned row, case by case

module _ (rows new : List Row) (blank : Row) (p : Plan) (r : ℕ) where
  pub planned_above : r < p.top → planned_row rows new blank p r ≡ row_at rows (r + p.over)
  unfolding planned_row
  planned_above h = pick _ _ _ (lt-ltb r p.top h)

  module _ (h : p.top ≤ r) where
    pub planned_line : r < p.top + p.lines → planned_row rows new blank p r ≡ row_at new (r - p.top)
    unfolding planned_row
    planned_line k = skip _ _ _ (le-ltb r p.top h) ∙ pick _ _ _ (lt-ltb r (p.top + p.lines) k)

    module _ (k : p.top + p.lines ≤ r) where
      pub planned_below : p.next + (r - (p.top + p.lines)) < p.rows → planned_row rows new blank p r ≡ row_at rows (p.next + (r - (p.top + p.lines)))
      unfolding planned_row
      planned_below q = skip _ _ _ (le-ltb r p.top h) ∙ skip _ _ _ (le-ltb r (p.top + p.lines) k) ∙ pick _ _ _ (lt-ltb (p.next + (r - (p.top + p.lines))) p.rows q)

      pub planned_blank : p.rows ≤ p.next + (r - (p.top + p.lines)) → planned_row rows new blank p r ≡ blank
      unfolding planned_row
      planned_blank q = skip _ _ _ (le-ltb r p.top h) ∙ skip _ _ _ (le-ltb r (p.top + p.lines) k) ∙ skip _ _ _ (le-ltb (p.next + (r - (p.top + p.lines))) p.rows q)

-- ---- the rows of a line

same_test : (a b c d : ℕ) → (a ≡ b → c ≡ d) → (c ≡ d → a ≡ b) → eqb a b ≡ eqb c d
same_test a b c d f g = pick (ℕ_discrete c d)
  where
    pick : Dec (c ≡ d) → eqb a b ≡ eqb c d
    pick (yes e) = eq-eqb a b (g e) ∙ sym (eq-eqb c d e)
    pick (no ne) = ne_eqb a b (λ q. ne (f q)) ∙ sym (ne_eqb c d ne)

flag_is : (i b k c : ℕ) → (i + 1 ≡ b → k ≡ c) → (k ≡ c → i + 1 ≡ b) → line_flag i b ≡ (if eqb k c then 0 else 1)
unfolding line_flag
flag_is i b k c f g = ap (λ (t : Bool). if t then 0 else 1) (same_test (i + 1) b k c f g)

flag_shift : (i b j c : ℕ) → (i + 1 ≡ b → j + 1 ≡ c) → (j + 1 ≡ c → i + 1 ≡ b) → line_flag i b ≡ line_flag j c
unfolding line_flag
flag_shift i b j c f g = flag_is i b (j + 1) c f g

pub length_lines : (k w : ℕ) (a : Attr) (cs : List ℕ) → length (line_rows k w a cs) ≡ k
unfolding line_rows
length_lines zero w a cs = refl
length_lines (suc k) w a cs = ap suc (length_lines k w a (drop w cs))

pub line_at : (k w : ℕ) (a : Attr) (cs : List ℕ) (i : ℕ) → i < k → row_at (line_rows k w a cs) i ≡ line_row w a (line_flag i k) (take w (drop (i * w) cs))
unfolding line_rows row_at
line_at zero w a cs i h = absurd (not-suc-le-zero h)
line_at (suc k) w a cs zero h =
    let z : 0 * w ≡ 0 = omega arith in
    sym (rw z (ap (λ (f : ℕ). line_row w a f (take w cs)) (flag_is 0 (suc k) k 0 (λ q. omega arith) (λ q. omega arith))))
line_at (suc k) w a cs (suc i) h =
    let z : suc i * w ≡ w + i * w = omega arith in
    line_at k w a (drop w cs) i (le_of_suc-le-suc h)
    ∙ ap₂ (λ (f : ℕ) (l : List ℕ). line_row w a f (take w l)) (flag_shift i k (suc i) (suc k) (λ q. omega arith) (λ q. omega arith))
    (drop-drop (i * w) w cs ∙ ap (λ (j : ℕ). drop j cs) (sym z))

-- ---- move_row: the row is as it was, and has to be; or it is put

pub row_kept : (rows : List Row) (l : List ℕ) (r src : ℕ) → length l ≡ SIZE → r < 25 → row_of l r ≡ row_at rows r → src ≡ r
    → Becomes l l (set (rows_of l) r (row_at rows src))
row_kept rows l r src len h same e =
    let g : get_or (rows_of l) r no_row ≡ row_at rows src = get_d_rows l r no_row h ∙ same ∙ ap (row_at rows) (sym e) in
    record { size = len; front = refl; rows = sym (ap (set (rows_of l) r) (sym g) ∙ set-get_or (rows_of l) r no_row) }

other_row : (l m : List ℕ) (r : ℕ) (x y : Row) → Becomes l m (set (rows_of l) r x) → x ≡ y → Becomes l m (set (rows_of l) r y)
other_row l m r x y b e = record { size = b.size; front = b.front; rows = b.rows ∙ ap (set (rows_of l) r) e }

pub row_moved : (k l m : List ℕ) (h : Head) (s : Screen) (r src : ℕ) (x : Row) → screen_with h k ≡ s → src < 25 → x ≡ row_of k src → Becomes l m (set (rows_of l) r x)
    → Becomes l m (set (rows_of l) r (row_at s.rows src))
unfolding row_at
row_moved k l m h s r src x e below ex b = other_row l m r x (get_or s.rows src no_row) b (row_seen k h s e x src below ex)

-- ---- write_row: what the code writes as the row r

module _ (rows new : List Row) (blank : Row) (p : Plan) (r : ℕ) (l m : List ℕ) where
  pub above_moved : r < p.top → Becomes l m (set (rows_of l) r (row_at rows (r + p.over)))
      → Becomes l m (set (rows_of l) r (planned_row rows new blank p r))
  above_moved h b = other_row l m r _ _ b (sym (planned_above rows new blank p r h))

  pub below_moved : p.top ≤ r → p.top + p.lines ≤ r → p.next + (r - (p.top + p.lines)) < p.rows
      → Becomes l m (set (rows_of l) r (row_at rows (p.next + (r - (p.top + p.lines))))) → Becomes l m (set (rows_of l) r (planned_row rows new blank p r))
  below_moved h k q b = other_row l m r _ _ b (sym (planned_below rows new blank p r h k q))

pub blank_put : (k l m : List ℕ) (h : Head) (s : Screen) (new : List Row) (p : Plan) (r : ℕ) → screen_with h k ≡ s → p.top ≤ r → p.top + p.lines ≤ r
    → p.rows ≤ p.next + (r - (p.top + p.lines)) → Becomes l m (set (rows_of l) r (blank_row h.width h.attr))
    → Becomes l m (set (rows_of l) r (planned_row s.rows new (blank_row s.head.width s.head.attr) p r))
blank_put k l m h s new p r e above below past b =
    other_row l m r _ _ b
    (ap (λ (x : Head). blank_row x.width x.attr) (head_seen k h s e)
    ∙ sym (planned_blank s.rows new (blank_row s.head.width s.head.attr) p r above below past))

-- the characters of a line's row: n of them, from index i on
cut_window : (text : List ℕ) (x w i n : ℕ) → i ≡ min (length text) x → n ≡ min w (length text - i) → window text i n ≡ take w (drop x text)
unfolding window
cut_window text x w i n ei en = pick (dec_lt (length text) x)
  where
    pick : Dec (length text < x) → take n (drop i text) ≡ take w (drop x text)
    pick (yes h) =
        let z : n ≡ 0 = omega arith in
        rw (z, drop_of_length-le text {i = x} (omega arith)) (sym (take-nil w))
    pick (no h) =
        let q : i ≡ x = omega arith in
        let k : length (drop x text) ≡ length text - x = length-drop x text in
        let m : n ≡ min w (length (drop x text)) = omega arith in
        rw (q, m) (take_min w (drop x text))

pub line_put : (k l m text : List ℕ) (h : Head) (s : Screen) (p : Plan) (r f i n : ℕ) → screen_with h k ≡ s → p.top ≤ r → r < p.top + p.lines
    → f ≡ line_flag r (p.top + p.lines) → i ≡ min (length text) ((r - p.top) * h.width) → n ≡ min h.width (length text - i)
    → Becomes l m (set (rows_of l) r (line_row h.width h.attr f (take (i + n - i) (drop i text))))
    → Becomes l m (set (rows_of l) r (planned_row s.rows (line_rows p.lines s.head.width s.head.attr text) (blank_row s.head.width s.head.attr) p r))
line_put k l m text h s p r f i n e above below ef ei en b =
    let j : ℕ = r - p.top in
    let w : ℕ = h.width in
    other_row l m r _ _ b
    (ap₂ (line_row w h.attr) (ef ∙ flag_shift r (p.top + p.lines) j p.lines (λ q. omega arith) (λ q. omega arith))
    (part_window text i n ∙ cut_window text (j * w) w i n ei en)
    ∙ ap (λ (x : Head). line_row x.width x.attr (line_flag j p.lines) (take x.width (drop (j * x.width) text))) (head_seen k h s e)
    ∙ sym (line_at p.lines s.head.width s.head.attr text j (omega arith))
    ∙ sym (planned_line s.rows (line_rows p.lines s.head.width s.head.attr text) (blank_row s.head.width s.head.attr) p r above below))

-- ---- write_rows

-- the first r rows are by the plan. Shut, so that `search` meets it as one call
unfoldable pub rows_to : List Row → List Row → Row → Plan → ℕ → List Row
rows_to rows new blank p r = tabulate (planned_row rows new blank p) r ++ drop r rows

-- l is the record as it was
module _ (rows new : List Row) (blank : Row) (p : Plan) (l : List ℕ) (same : rows_of l ≡ rows) where
  f : ℕ → Row
  f r = planned_row rows new blank p r

  size : length rows ≡ 25
  size = ap length (sym same) ∙ length_rows l

  pub rows_start : length l ≡ SIZE → Becomes l l (rows_to rows new blank p 0)
  unfolding rows_to tabulate
  rows_start len = record { size = len; front = refl; rows = same }

  pub row_still : (m : List ℕ) (r : ℕ) → r < p.rows → Laid p → Becomes l m (rows_to rows new blank p r) → row_of m r ≡ row_at rows r
  unfolding rows_to f row_at
  row_still m r h laid b =
      let q : r < 25 = omega arith in
      sym (get_d_rows m r no_row q) ∙ ap (λ (R : List Row). get_or R r no_row) b.rows
      ∙ ap (λ (R : List Row). get_or (tabulate f r ++ R) r no_row) (drop-cons rows r no_row (omega (arith, size)))
      ∙ get_or_at (tabulate f r) (get_or rows r no_row) (drop (suc r) rows) no_row r (length_tabulate f r)

  pub rows_turn : (m n : List ℕ) (r e : ℕ) → r < e → ChangedTo p e → Laid p → Becomes l m (rows_to rows new blank p r)
      → Becomes m n (set (rows_of m) r (planned_row rows new blank p r)) → Becomes l n (rows_to rows new blank p (r + 1))
  unfolding rows_to tabulate f
  rows_turn m n r e h c laid b b' =
      let rest : List Row = drop (suc r) rows in
      and_then b b'
      (ap (λ (R : List Row). set R r (f r)) b.rows
      ∙ ap (λ (R : List Row). set (tabulate f r ++ R) r (f r)) (drop-cons rows r no_row (omega (arith, size)))
      ∙ set_at (tabulate f r) (get_or rows r no_row) rest (f r) r (length_tabulate f r)
      ∙ sym (append_snoc (tabulate f r) (f r) rest) ∙ ap (λ (k : ℕ). tabulate f k ++ drop k rows) (sym (add-one r)))

  -- a row behind a line that has as many rows as before
  stays : (r : ℕ) → Laid p → p.next ≡ p.top + p.lines → p.top + p.lines ≤ r → r < p.rows → f r ≡ row_at rows r
  unfolding f
  stays r laid e h k =
      planned_below rows new blank p r (omega arith) h (omega arith) ∙ ap (row_at rows) (omega arith)

  behind : (r k : ℕ) → Laid p → p.next ≡ p.top + p.lines → p.top + p.lines ≤ r → r + k ≤ p.rows
      → rows_to rows new blank p (r + k) ≡ rows_to rows new blank p r
  unfolding rows_to tabulate f row_at
  behind r zero laid e h le =
      let n : r + zero ≡ r = omega arith in
      ap (rows_to rows new blank p) n
  behind r (suc k) laid e h le =
      let n : r + suc k ≡ suc (r + k) = omega arith in
      ap (rows_to rows new blank p) n
      ∙ append_snoc (tabulate f (r + k)) (f (r + k)) (drop (suc (r + k)) rows)
      ∙ ap (λ (x : Row). tabulate f (r + k) ++ (x ∷ drop (suc (r + k)) rows)) (stays (r + k) laid e (omega arith) (omega arith))
      ∙ ap (λ (R : List Row). tabulate f (r + k) ++ R) (sym (drop-cons rows (r + k) no_row (omega (arith, size))))
      ∙ behind r k laid e h (omega arith)

  pub rows_end : (m : List ℕ) (r e : ℕ) → Laid p → ChangedTo p e → r ≤ e → e ≤ r → Becomes l m (rows_to rows new blank p r)
      → Becomes l m (planned_rows rows new blank p)
  unfolding rows_to planned_rows
  rows_end m r e laid c h k b = go c.rest
    where
      done : r ≡ e
      done = omega arith

      go : (e ≡ p.rows) ⊎ ((e ≡ p.top + p.lines) × (p.next ≡ e)) → Becomes l m (planned_rows rows new blank p)
      go (inl x) = rw (done ∙ x) at b
      go (inr (x, y)) =
          let to : r + (p.rows - r) ≡ p.rows = omega (arith, c.most) in
          record {
            size = b.size;
            front = b.front;
            rows =
                b.rows ∙ sym (behind r (p.rows - r) laid (y ∙ x) (omega arith) (omega arith))
                ∙ ap (λ (i : ℕ). tabulate (planned_row rows new blank p) i ++ drop i rows) to;
          }

pub changed_line : (p : Plan) → Laid p → p.next ≡ p.top + p.lines → ChangedTo p (p.top + p.lines)
changed_line p laid e = record { most = laid.whole; rest = inr (refl, e) }

pub changed_all : (p : Plan) → ChangedTo p p.rows
changed_all p = record { most = omega arith; rest = inl refl }
