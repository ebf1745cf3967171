-- `check`: the test of an arriving slice, part by part as the code looks at it.
-- Assumes nothing.
use Prim.Native.Nat.{ℕ, zero, suc, ◌+◌, ◌-◌, ◌*◌, ◌/◌, ◌≤◌, ◌<◌}
use mathlib.Core.Path.{◌≡◌, refl, sym, ap, ap₂, ◌∙◌}
use mathlib.Core.Bool.{Bool, true, false, ◌&&◌, true≢false}
use mathlib.Core.Bool
use mathlib.Core.List.{List, [], ◌∷◌, map}
use mathlib.Core.Logic.{⊎_elim}
use native.Mathlib.Omega.{arith}
use lib.Dec.{eqb}
use lib.ListN.{length, get_or, take, drop, length-drop}
use lib.Seq.{take_all, drop-drop, get_or-drop, get_or-take}
use lib.Count.{ones}
use borrow.Author.Tests.{eq-eqb, eqb-true}
use Rattle.std.specs.Prelude.{SomeIff, IsTrue}
use Rattle.std.specs.Bool.{then_some}
use Rattle.std.specs.List.{list_all}
use Rattle.std.specs.Simd.{first_chunks}
use Rattle.octets.specs.Number.{number2}
use Rattle.octets.specs.Part.{window}
use Rattle.octets.specs.Test.{every}
use Rattle.octets.proofs.Bools.{and_left, and_right}
use Rattle.octets.proofs.PartLaws.{window_window}
use Rattle.grid.specs.Screen.{Row, valid_head, valid_row}
use Rattle.grid.specs.Record.{row_from}
use Rattle.grid.specs.declared.head.Head.{Head}
use Rattle.grid.proofs.Validity.{head_facts}
use Rattle.report.specs.Layout.{REPORT-VERSION, KIND, ROWS, ROW-SIZE}
use Rattle.report.specs.declared.front.Front.{Front}
use Rattle.report.specs.Kind.{kind_byte, mask_fits, rows_at, report_length}
use Rattle.report.specs.Report.{read_front, row_in, carried_rows, read_report, frontb, reportb}
use Rattle.report.proofs.KindLaws.{rows_at_kind}

-- ---- the front

-- of a slice whose kind is told
pub front_told : (b : List ℕ) → get_or b KIND 0 ≡ kind_byte (read_front b).kind → frontb b
    ≡ eqb (length b) (report_length (read_front b).kind (read_front b).mask) && eqb (number2 (get_or b 0 0) (get_or b 1 0)) (length b)
    && eqb (get_or b 2 0) REPORT-VERSION && mask_fits (read_front b).kind (read_front b).mask
unfolding frontb
front_told b e = simp (eq-eqb (get_or b KIND 0) (kind_byte (read_front b).kind) e, Bool.and-true)

-- so long is a slice that passes
pub front_length : (b : List ℕ) → frontb b ≡ true → length b ≡ report_length (read_front b).kind (read_front b).mask
unfolding frontb
front_length b t = eqb-true (length b) (report_length (read_front b).kind (read_front b).mask) (search (and_left, and_right))

-- ---- the rows, one after the other

pub length_rows_in : (n : ℕ) (b : List ℕ) → length (carried_rows n b) ≡ n
unfolding carried_rows
length_rows_in zero b = refl
length_rows_in (suc n) b = ap suc (length_rows_in n (drop ROW-SIZE b))

-- a row that stands further on
row_on : (b : List ℕ) (k a : ℕ) → row_in (drop k b) a ≡ row_in b (k + a)
unfolding row_in row_from window
row_on b k a =
    let e₁ : k + (a + 1) ≡ k + a + 1 = omega arith in
    let e₂ : k + (a + 1 + 80) ≡ k + a + 1 + 80 = omega arith in
    let f = get_or-drop k b a 0 in
    let c = ap (take 80) (drop-drop (a + 1) k b ∙ ap (λ (i : ℕ). drop i b) e₁) in
    let d = ap (take 80) (drop-drop (a + 1 + 80) k b ∙ ap (λ (i : ℕ). drop i b) e₂) in
    λ i. record { flag = f i; chars = c i; attrs = d i }

pub get_d_rows_in : (n : ℕ) (b : List ℕ) (i : ℕ) (d : Row) → i < n → get_or (carried_rows n b) i d ≡ row_in b (ROW-SIZE * i)
unfolding carried_rows
get_d_rows_in zero b i d h = absurd (omega arith)
get_d_rows_in (suc n) b zero d h = refl
get_d_rows_in (suc n) b (suc i) d h =
    let e : ROW-SIZE + ROW-SIZE * i ≡ ROW-SIZE * suc i = omega arith in
    get_d_rows_in n (drop ROW-SIZE b) i d (omega arith) ∙ row_on b ROW-SIZE (ROW-SIZE * i) ∙ ap (row_in b) e

-- row i of those from index a on
pub row_at_facts : (a n : ℕ) (b : List ℕ) (i : ℕ) (d : Row) → i < n → get_or (carried_rows n (drop a b)) i d ≡ row_in b (a + ROW-SIZE * i)
row_at_facts a n b i d h = get_d_rows_in n (drop a b) i d h ∙ row_on b a (ROW-SIZE * i)

row_alone : (b : List ℕ) → ROW-SIZE ≤ length b → row_in (take ROW-SIZE b) 0 ≡ row_in b 0
unfolding row_in row_from window
row_alone b h =
    let f = get_or-take ROW-SIZE b 0 0 (omega arith) in
    let c = window_window b 0 1 ROW-SIZE 80 (omega arith) h in
    let d = window_window b 0 81 ROW-SIZE 80 (omega arith) h in
    λ i. record { flag = f i; chars = c i; attrs = d i }

-- the rows that fill the slice, each read in its own part of it
pub rows_apart : (n : ℕ) (b : List ℕ) → length b ≡ ROW-SIZE * n → map (λ (row : List ℕ). row_in row 0) (first_chunks ROW-SIZE n b) ≡ carried_rows n b
unfolding carried_rows
rows_apart zero b h = refl
rows_apart (suc n) b h = ap₂ (λ (x : Row) (xs : List Row). x ∷ xs) (row_alone b (omega arith)) (rows_apart n (drop ROW-SIZE b) (omega (arith, length-drop ROW-SIZE b)))

-- and each tested
rows_tested : (w : ℕ) (cs : List (List ℕ)) → list_all (λ (row : List ℕ). valid_row w (row_in row 0)) cs ≡ every (valid_row w) (map (λ (row : List ℕ). row_in row 0) cs)
unfolding every
rows_tested w [] = refl
rows_tested w (c ∷ cs) = ap (λ (t : Bool). valid_row w (row_in c 0) && t) (rows_tested w cs)

-- ---- the whole

pub told : (b : List ℕ) → reportb b ≡ true → (ROWS ≤ length b) × (get_or b KIND 0 ≡ kind_byte (read_front b).kind)
unfolding reportb frontb
told b t =
    let n : length b ≡ report_length (read_front b).kind (read_front b).mask = eqb-true _ _ (search (and_left, and_right) depth 8) in
    (omega (arith, rows_at_kind (read_front b).kind), eqb-true _ _ (search (and_left, and_right) depth 8))

pub front_passes : (b : List ℕ) → reportb b ≡ true → frontb b ≡ true
unfolding reportb
front_passes b t = search (and_left, and_right)

pub head_passes : (b : List ℕ) → reportb b ≡ true → valid_head (read_front b).head ≡ true
unfolding reportb read_report
head_passes b t = search (and_left, and_right)

-- there are two widths
pub other_width : (h : Head) → true ≡ valid_head h → (h.width ≡ 40 → ⊥) → h.width ≡ 80
other_width h t n = ⊎_elim (λ (q : h.width ≡ 40). absurd (n q)) (λ (q : h.width ≡ 80). q) (head_facts h (sym t)).widths

pub report_told : (b : List ℕ) → true ≡ frontb b → let d = drop (rows_at (read_front b).kind) b in reportb b
    ≡ valid_head (read_front b).head && list_all (λ (row : List ℕ). valid_row (read_front b).head.width (row_in row 0)) (first_chunks ROW-SIZE (length d / ROW-SIZE) d)
unfolding reportb read_report
report_told b t =
    let f : Front = read_front b in
    let d : List ℕ = drop (rows_at f.kind) b in
    let size : length d ≡ ROW-SIZE * ones f.mask = omega (arith, front_length b (sym t), length-drop (rows_at f.kind) b) in
    let n : length d / ROW-SIZE ≡ ones f.mask = omega (arith, size) in
    rw (sym t, n, rows_tested f.head.width, rows_apart (ones f.mask) d size)

-- t is what the test of the rows from index a on has answered, at the width w
pub found : (b : List ℕ) (f : Front) (a w : ℕ) (rows : List (List ℕ)) (t : Bool) → f ≡ read_front b → true ≡ frontb b → true ≡ valid_head f.head → a ≡ rows_at f.kind
    → let d = take (length b - a) (drop a b) in rows ≡ first_chunks ROW-SIZE (length d / ROW-SIZE) d
    → f.head.width ≡ w → t ≡ list_all (λ (row : List ℕ). valid_row w (row_in row 0)) rows → SomeIff (then_some t f) (IsTrue (reportb b)) (read_front b)
found b f a w rows t ef ep eh ea er ew et =
    let whole : take (length b - a) (drop a b) ≡ drop a b = take_all (length b - a) (drop a b) (omega (arith, length-drop a b)) in
    let k : a ≡ rows_at (read_front b).kind = ea ∙ ap (λ (g : Front). rows_at g.kind) ef in
    let h : valid_head (read_front b).head ≡ true = sym (eh ∙ ap (λ (g : Front). valid_head g.head) ef) in
    let e : t ≡ reportb b =
    et ∙ ap₂ (λ (x : ℕ) (c : List (List ℕ)). list_all (λ (row : List ℕ). valid_row x (row_in row 0)) c) (sym ew ∙ ap (λ (g : Front). g.head.width) ef) (rw (whole, k) at er)
    ∙ sym (rw (report_told b ep, h)) in
    go t e
  where
    go : (t : Bool) → t ≡ reportb b → SomeIff (then_some t f) (IsTrue (reportb b)) (read_front b)
    go true e = (sym e, ef)
    go false e = λ q. true≢false (sym q ∙ sym e)
