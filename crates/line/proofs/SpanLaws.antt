-- The span of a row: what `find` answers among the rows before it, and from it on.
-- Assumes nothing.
use Prim.Native.Nat.{ℕ, zero, suc, ◌+◌, ◌-◌, ◌≤◌, ◌<◌}
use mathlib.Core.Path.{◌≡◌, refl, sym, ap, ap₂, ◌∙◌, subst}
use mathlib.Core.Bool.{Bool, true, false, not, cond}
use mathlib.Core.List.{List, [], ◌∷◌}
use native.Mathlib.Numerals.{add-one}
use native.Mathlib.Omega.{arith}
use lib.Dec.{eqb}
use Rattle.std.proofs.Common.{Option, None, Some}
use Rattle.std.specs.Prelude.{if◌then◌else◌}
use Rattle.std.specs.Option.{MatchOption, unwrap_or, option_map}
use Rattle.std.proofs.lemmas.Iterator.{YieldsList}
use Rattle.std.proofs.lemmas.Iterator.Consumers.{YieldsList-from_shown}
use Rattle.std.proofs.lemmas.Iterator.Adapters.{option_map_id}
use Rattle.std.specs.List.{find, range_with_len}
use Rattle.std.specs.Iterator.Adapters.{rev_source, rev_steps}
use Rattle.std.specs.declared.iter.Rev.{Rev}
use Rattle.std.specs.declared.ops.Range.{Range}
use Rattle.grid.specs.Screen.{Row, Screen, editable, row_at, no_row}
use Rattle.grid.specs.Record.{row_of, rows_of, screen_with}
use Rattle.grid.specs.declared.head.Head.{Head}
use Rattle.octets.proofs.Bools.{either}
use Rattle.grid.proofs.RowLaws.{get_d_rows}
use Rattle.line.specs.Line.{flagged, span_start, span_end, start_of, end_of}
use Rattle.line.specs.Given.{SpanOf}

-- does a line end with row k? Asked of the record, as the code asks it
abbrev pub ends_line : List ℕ → ℕ → Bool
ends_line l k = not (eqb (row_of l k).flag 1)

goes_on : (l : List ℕ) (k : ℕ) → k < 25 → flagged (rows_of l) k ≡ eqb (row_of l k).flag 1
unfolding flagged row_at
goes_on l k h = ap (λ (x : Row). eqb x.flag 1) (get_d_rows l k no_row h)

-- ---- a span lies around its row

pub span_start_most : (rows : List Row) (r : ℕ) → span_start rows r ≤ r
unfolding span_start
span_start_most rows zero = omega arith
span_start_most rows (suc r) = let h = span_start_most rows r in either (λ (x : ℕ). x ≤ suc r) (flagged rows r) _ _ (omega arith) (omega arith)

pub span_end_from : (rows : List Row) (k r : ℕ) → r ≤ span_end rows k r
unfolding span_end
span_end_from rows zero r = omega arith
span_end_from rows (suc k) r = let h = span_end_from rows k (suc r) in either (λ (x : ℕ). r ≤ x) (flagged rows r) _ _ (omega arith) (omega arith)

pub span_end_to : (rows : List Row) (k r : ℕ) → span_end rows k r ≤ r + k
unfolding span_end
span_end_to rows zero r = omega arith
span_end_to rows (suc k) r = let h = span_end_to rows k (suc r) in either (λ (x : ℕ). x ≤ r + suc k) (flagged rows r) _ _ (omega arith) (omega arith)

-- ---- span_start: what `find` finds among the rows before a row, the last one first

-- n rows from row a on, the last one first
abbrev pub rows_down : ℕ → ℕ → List ℕ
rows_down a zero = []
rows_down a (suc n) = (a + n) ∷ rows_down a n

abbrev steps_down : Rev (Range ℕ) → Option ℕ → Rev (Range ℕ) → Type 0
steps_down = rev_steps (λ s r t. (t.start ≡ s.start) × MatchOption r ((s.end - s.start ≡ 0) × (t.end ≡ s.end)) (λ x. (0 < s.end - s.start) × (x ≡ t.end) × (s.end ≡ t.end + 1)))

gives_left : (s : Rev (Range ℕ)) → YieldsList steps_down (λ x. x) s (rows_down (rev_source s).start ((rev_source s).end - (rev_source s).start))
gives_left s =
    YieldsList-from_shown steps_down (λ x. x) (λ u. rows_down (rev_source u).start ((rev_source u).end - (rev_source u).start))
    (λ u t h. rw h.1.0)
    (λ u x t h.
    let n : ℕ = (rev_source t).end - (rev_source t).start in
    let q : (rev_source u).end - (rev_source u).start ≡ suc n = omega arith in
    let k : (rev_source t).start + n ≡ x = omega arith in
    rw (q, ← k) (ap (λ (a : ℕ). (a + n) ∷ rows_down a n) (sym h.0)))
    s

pub gives_down : (s : Rev (Range ℕ)) (n : ℕ) → rev_source s ≡ record { start = 0; end = n } → YieldsList steps_down (λ x. x) s (rows_down 0 n)
gives_down s n e =
    let z : n - 0 ≡ n = omega arith in
    rw z at (subst (λ (p : Range ℕ). YieldsList steps_down (λ x. x) s (rows_down p.start (p.end - p.start))) e (gives_left s))

-- where the row k goes on with its line, what is found is found further up
step_back : (b : Bool) (k x : ℕ) (o : Option ℕ) → MatchOption o (0 ≡ x) (λ i. i + 1 ≡ x)
    → MatchOption (cond (not b) (Some k) o) (0 ≡ (if b then x else suc k)) (λ i. i + 1 ≡ (if b then x else suc k))
step_back true k x o h = h
step_back false k x o h = omega arith

start_found : (l : List ℕ) (r : ℕ) → r ≤ 25
    → MatchOption (find (ends_line l) (rows_down 0 r)) (0 ≡ span_start (rows_of l) r) (λ k. k + 1 ≡ span_start (rows_of l) r)
unfolding span_start
start_found l zero h = omega arith
start_found l (suc r) h =
    let z : 0 + r ≡ r = omega arith in
    rw (z, goes_on l r (omega arith)) (step_back (eqb (row_of l r).flag 1) r _ _ (start_found l r (omega arith)))

pub start_at : (l : List ℕ) (row x : ℕ) (o : Option ℕ) → row < 25 → (o ≡ None → x ≡ 0) → ((k : ℕ) → o ≡ Some k → x ≡ k + 1)
    → option_map (λ k. k) o ≡ find (ends_line l) (rows_down 0 row)
    → (x ≡ span_start (rows_of l) row) × (x ≤ row)
start_at l row x o h none some f =
    let found = subst (λ (p : Option ℕ). MatchOption p (0 ≡ span_start (rows_of l) row) (λ k. k + 1 ≡ span_start (rows_of l) row)) (sym f ∙ option_map_id o) (start_found l row (omega arith)) in
    let is : x ≡ span_start (rows_of l) row = both o none some found in
    (is, omega (arith, span_start_most (rows_of l) row))
  where
    both : (p : Option ℕ) → (p ≡ None → x ≡ 0) → ((k : ℕ) → p ≡ Some k → x ≡ k + 1) → MatchOption p (0 ≡ span_start (rows_of l) row) (λ k. k + 1 ≡ span_start (rows_of l) row)
        → x ≡ span_start (rows_of l) row
    both None a b e = a refl ∙ e
    both (Some k) a b e = b k refl ∙ e

-- ---- span_end: among the n rows from a row on

step_on : (b : Bool) (k x d : ℕ) (o : Option ℕ) → unwrap_or o d ≡ x → unwrap_or (cond (not b) (Some k) o) d ≡ (if b then x else k)
step_on true k x d o h = h
step_on false k x d o h = omega arith

end_found : (l : List ℕ) (n r : ℕ) → r + n ≤ 25 → unwrap_or (find (ends_line l) (range_with_len r n)) (r + n) ≡ span_end (rows_of l) n r
unfolding span_end
end_found l zero r h = omega arith
end_found l (suc n) r h =
    let q : r + suc n ≡ suc r + n = omega arith in
    rw (goes_on l r (omega arith), q, add-one r) (step_on (eqb (row_of l r).flag 1) r _ _ _ (end_found l n (suc r) (omega arith)))

pub end_at : (l : List ℕ) (row e x : ℕ) (o : Option ℕ) → row < e → e ≤ 25 → x ≡ unwrap_or o (e - 1)
    → option_map (λ k. k) o ≡ find (ends_line l) (range_with_len row (e - 1 - row))
    → (x ≡ span_end (rows_of l) (e - 1 - row) row) × (row ≤ x) × (x < e)
end_at l row e x o h h' q f =
    let n : ℕ = e - 1 - row in
    let last : row + n ≡ e - 1 = omega arith in
    let is : x ≡ span_end (rows_of l) n row =
    q ∙ ap₂ unwrap_or (sym (option_map_id o) ∙ f) (sym last) ∙ end_found l n row (omega arith) in
    (is, omega (arith, span_end_from (rows_of l) n row), omega (arith, span_end_to (rows_of l) n row))

-- ---- span_at: the screen s is read from the record l with the head h, and e is what editable_rows has answered

pub span_made : (l : List ℕ) (h : Head) (s : Screen) (row start end e : ℕ) → screen_with h l ≡ s → e ≡ editable h.keys
    → start ≡ span_start (rows_of l) row → start ≤ row → end ≡ span_end (rows_of l) (e - 1 - row) row → row ≤ end → end < e → SpanOf s row start end
unfolding start_of end_of
span_made l h s row start end e is ee es hs ed hd hi =
    subst (λ (x : Screen). SpanOf x row start end) is
    (record { first = es; last = ed ∙ ap (λ (k : ℕ). span_end (rows_of l) (k - 1 - row) row) ee; from = hs; to = hd; inside = omega arith })
