-- `arrive`: a report's rows and front, put into the record that a mirror shows.
-- Assumes nothing.
use Prim.Native.Nat.{ℕ, suc, ◌+◌, ◌-◌, ◌*◌, ◌/◌, ◌≤◌, ◌<◌}
use mathlib.Core.Path.{◌≡◌, refl, sym, ap, ◌∙◌}
use mathlib.Core.Bool.{Bool, true, false}
use mathlib.Core.List.{List, [], ◌++◌, map}
use native.Mathlib.Numerals.{add-one}
use native.Mathlib.Omega.{arith}
use lib.ListN.{length, get_or, take, drop, set, length-map, length-drop, get_or-map}
use lib.Seq.{take_all}
use lib.Count.{ones}
use Rattle.std.specs.Prelude.{if◌then◌else◌}
use Rattle.std.specs.Simd.{first_chunks}
use Rattle.std.proofs.lemmas.Bool.{cond-true as pick}
use Rattle.values.specs.Mask.{has_row}
use Rattle.grid.specs.Layout.{SIZE, FLAGS}
use Rattle.grid.specs.Screen.{Row}
use Rattle.grid.specs.Record.{rows_of, read_state, front_bytes, state_bytes, Becomes}
use Rattle.grid.specs.Facts.{HeadFits}
use Rattle.grid.proofs.RowLaws.{length_rows, and_then}
use Rattle.grid.proofs.Record.{left_bytes}
use Rattle.grid.proofs.Validity.{head_fits}
use Rattle.grid.proofs.Conditions.{conditions_head}
use Rattle.report.specs.Layout.{ROW-SIZE}
use Rattle.report.specs.declared.front.Front.{Front}
use Rattle.report.specs.Kind.{rows_at}
use Rattle.report.specs.Carried.{bits, merge}
use Rattle.report.specs.Report.{read_front, row_in, carried_rows, read_report}
use Rattle.report.specs.Refusals.{ValidReport}
use Rattle.report.proofs.Conditions.{length_from}
use Rattle.report.proofs.RowByRow.{trues, rows_before, merge_more, before_more, before_most}
use Rattle.report.proofs.CheckLaws.{rows_apart}
use Rattle.mirror.specs.Mirror.{shown}

-- ---- the rows of the mask

before_lt : (mask r : ℕ) → has_row mask r ≡ true → rows_before mask r < ones mask
before_lt mask r h =
    let e : rows_before mask (suc r) ≡ suc (rows_before mask r) = before_more mask r ∙ pick _ _ _ h in
    omega (arith, e, before_most mask (suc r))

-- those among the first r rows of the record l have given way to the first n of the rows ys
pub record Replaced (ys : List Row) (mask r n : ℕ) (l l' : List ℕ) : Type 0 where
  pub becomes : Becomes l l' (merge (bits r mask) ys (rows_of l))
  pub next : n ≡ rows_before mask r
  pub most : n ≤ r

pub take_start : (ys : List Row) (mask : ℕ) (l : List ℕ) → length l ≡ SIZE → Replaced ys mask 0 0 l l
unfolding merge bits rows_before trues
take_start ys mask l len = record { becomes = record { size = len; front = refl; rows = refl }; next = refl; most = omega arith }

-- the row r: t is what `has_row` has answered of it, and cs the bytes of the carried rows
module _ (cs : List (List ℕ)) (mask r n : ℕ) (l m : List ℕ) (t : Bool) (below : r < 25) (many : length cs ≡ ones mask)
    (a : Replaced (map (λ (row : List ℕ). row_in row 0) cs) mask r n l m) (is : t ≡ has_row mask r)
  where
    ys : List Row
    ys = map (λ (row : List ℕ). row_in row 0) cs

    pub next_known : t ≡ true → n < length cs
    next_known has = omega (arith, before_lt mask r (sym is ∙ has), a.next)

    merged : merge (bits (r + 1) mask) ys (rows_of l) ≡ (if t then set (rows_of m) r (get_or ys n (row_in [] 0)) else rows_of m)
    unfolding ys
    merged =
        ap (λ (k : ℕ). merge (bits k mask) ys (rows_of l)) (add-one r)
        ∙ merge_more mask r ys (rows_of l) (row_in [] 0) (omega (arith, length_rows l)) (λ h. omega (arith, before_lt mask r h, length-map cs (λ (row : List ℕ). row_in row 0)))
        ∙ rw (← is, ← a.next, ← a.becomes.rows)

    before : rows_before mask (r + 1) ≡ (if t then suc n else n)
    before = ap (rows_before mask) (add-one r) ∙ before_more mask r ∙ rw (← is, ← a.next)

    pub take_skip : t ≡ false → Replaced (map (λ (row : List ℕ). row_in row 0) cs) mask (r + 1) n l m
    unfolding ys
    take_skip un = record {
      becomes = record { size = a.becomes.size; front = a.becomes.front; rows = sym (rw un at merged) };
      next = sym (rw un at before);
      most = omega (arith, a.most);
    }

    -- x is the carried row, put in the place of the row r
    pub take_put : (m' : List ℕ) (x : Row) → t ≡ true → x ≡ row_in (get_or cs n []) 0 → Becomes m m' (set (rows_of m) r x)
        → Replaced (map (λ (row : List ℕ). row_in row 0) cs) mask (r + 1) (n + 1) l m'
    unfolding ys
    take_put m' x has ex b =
        let y : x ≡ get_or ys n (row_in [] 0) = ex ∙ sym (get_or-map (λ (row : List ℕ). row_in row 0) cs n []) in
        record {
          becomes = and_then a.becomes b (ap (set (rows_of m) r) y ∙ sym (rw has at merged));
          next = add-one n ∙ sym (rw has at before);
          most = omega (arith, a.most);
        }

pub take_end : (ys : List Row) (mask r n : ℕ) (l m : List ℕ) → r ≤ 25 → 25 ≤ r → Replaced ys mask r n l m → Becomes l m (merge (bits 25 mask) ys (rows_of l))
take_end ys mask r n l m h k t =
    let done : r ≡ 25 = omega arith in
    let p = t.becomes in
    record { size = p.size; front = p.front; rows = p.rows ∙ ap (λ (i : ℕ). merge (bits i mask) ys (rows_of l)) done }

-- ---- the record that is shown: f is the report's front, from where its rows begin

module _ (b : List ℕ) (v : ValidReport b) (f : Front) (ef : f ≡ read_front b) where
  pub front_known : HeadFits f.head
  front_known = rw ef (unfold read_front in head_fits _ (conditions_head _ v.head))

  module _ (from : ℕ) (es : from ≡ rows_at f.kind) where
    rows_known : length b ≡ from + ROW-SIZE * ones f.mask
    rows_known =
        v.size ∙ sym (length_from b) ∙ ap (λ (g : Front). rows_at g.kind + ROW-SIZE * ones g.mask) (sym ef)
        ∙ ap (λ (i : ℕ). i + ROW-SIZE * ones f.mask) (sym es)

    pub start_known : from ≤ length b
    start_known = omega (arith, rows_known)

    whole : take (length b - from) (drop from b) ≡ drop from b
    whole = take_all (length b - from) (drop from b) (omega (arith, length-drop from b))

    chunks : length (take (length b - from) (drop from b)) / ROW-SIZE ≡ ones f.mask
    chunks = rw whole (omega (arith, rows_known, length-drop from b))

    pub many_known : (cs : List (List ℕ)) → length cs ≡ length (take (length b - from) (drop from b)) / ROW-SIZE → length cs ≡ ones f.mask
    many_known cs e = e ∙ chunks

    -- cs are the bytes of the carried rows
    pub show_done : (cs : List (List ℕ)) (l m n : List ℕ)
        → (let d = take (length b - from) (drop from b) in cs ≡ first_chunks ROW-SIZE (length d / ROW-SIZE) d)
        → Becomes l m (merge (bits 25 f.mask) (map (λ (row : List ℕ). row_in row 0) cs) (rows_of l))
        → n ≡ front_bytes f.head (record { pair = f.pair; touched = 0 }) ++ drop FLAGS m → n ≡ state_bytes (shown (read_report b) (read_state l))
    unfolding shown read_report read_state
    show_done cs l m n ec p e =
        let stands : map (λ (row : List ℕ). row_in row 0) cs ≡ carried_rows (ones f.mask) (drop from b) =
        rw (ec, chunks, whole) (rows_apart (ones f.mask) (drop from b) (omega (arith, rows_known, length-drop from b))) in
        let rows : Front → ℕ → List Row = λ g i. merge (bits 25 g.mask) (carried_rows (ones g.mask) (drop i b)) (rows_of l) in
        left_bytes m n f.head (rows f from) (record { pair = f.pair; touched = 0 }) p.size
        (p.rows ∙ ap (λ (xs : List Row). merge (bits 25 f.mask) xs (rows_of l)) stands) e
        ∙ ap (λ (i : ℕ). state_bytes (record { screen = record { head = f.head; rows = rows f i }; stamp = record { pair = f.pair; touched = 0 } })) es
        ∙ ap (λ (g : Front). state_bytes (record { screen = record { head = g.head; rows = rows g (rows_at g.kind) }; stamp = record { pair = g.pair; touched = 0 } })) ef
