-- From the test of a report to the documents' conditions, and back.
-- Assumes nothing.
use Prim.Native.Nat.{ℕ, ◌+◌, ◌*◌, ◌≤◌, ◌<◌}
use mathlib.Core.Path.{◌≡◌, refl, sym, ap, ◌∙◌}
use mathlib.Core.Bool.{true}
use mathlib.Core.List.{List}
use mathlib.Core.Logic.{◌↔◌}
use native.Mathlib.Omega.{arith}
use lib.ListN.{length, get_or, drop}
use lib.Count.{ones}
use borrow.Author.Tests.{ltb-true, eqb-true, lt-ltb, eq-eqb}
use Rattle.octets.specs.Number.{four_at}
use Rattle.octets.specs.Test.{every}
use Rattle.octets.proofs.Bools.{and_left, and_right, tests}
use Rattle.grid.specs.Layout.{MASKS}
use Rattle.grid.specs.Screen.{no_row, valid_head, valid_row}
use Rattle.grid.specs.Record.{head_at}
use Rattle.grid.specs.Facts.{HeadFacts}
use Rattle.grid.specs.Conditions.{ValidRow}
use Rattle.grid.proofs.Validity.{head_facts, head_valid}
use Rattle.grid.proofs.Conditions.{head_conditions, conditions_head, rows_conditions}
use Rattle.report.specs.Layout.{KIND, MASK, HEAD, ROWS, ROW-SIZE, ALL-ROWS}
use Rattle.report.specs.declared.kind.Kind.{Kind}
use Rattle.report.specs.declared.kind.Kind.TheVariants.{Step, Full}
use Rattle.report.specs.Kind.{kind_byte, kind_of, mask_fits, report_length}
use Rattle.report.specs.Report.{read_front, row_in, carried_rows, read_report, frontb, reportb}
use Rattle.report.specs.Refusals.{KindFits, ValidReport}
use Rattle.report.specs.Refusals.KindFits.{step, full}
use Rattle.report.proofs.KindLaws.{rows_at_kind, step_byte, full_of}
use Rattle.report.proofs.CheckLaws.{length_rows_in, row_at_facts}

fits_kind : (k mask : ℕ) (kind : Kind) → k ≡ kind_byte kind → mask_fits kind mask ≡ true → KindFits k mask
unfolding kind_byte mask_fits
fits_kind k mask Step e m = step e (ltb-true _ _ m)
fits_kind k mask Full e m = full e (eqb-true _ _ m)

record KindTests (k m : ℕ) : Type 0 where
  byte : k ≡ kind_byte (kind_of k)
  fits : mask_fits (kind_of k) m ≡ true

kind_fits : (k mask : ℕ) → KindFits k mask → KindTests k mask
unfolding kind_byte mask_fits
kind_fits k mask (step e m) =
    let s = step_byte k e in
    record { byte = e ∙ ap kind_byte s; fits = ap (λ (x : Kind). mask_fits x mask) (sym s) ∙ lt-ltb mask MASKS m }
kind_fits k mask (full e m) =
    let f = full_of k e in
    record { byte = e ∙ ap kind_byte f; fits = ap (λ (x : Kind). mask_fits x mask) (sym f) ∙ eq-eqb mask ALL-ROWS m }

pub front_from : (b : List ℕ) → (read_report b).front ≡ read_front b
unfolding read_report
front_from b = refl

pub mask_from : (b : List ℕ) → four_at b MASK ≡ (read_front b).mask
unfolding read_front
mask_from b = refl

-- the rows begin at the same place whatever the kind
pub rows_from : (b : List ℕ) → (read_report b).rows ≡ carried_rows (ones (four_at b MASK)) (drop ROWS b)
unfolding read_report read_front
rows_from b = ap (λ (i : ℕ). carried_rows (ones (four_at b MASK)) (drop i b)) (rows_at_kind (kind_of (get_or b KIND 0)))

pub length_from : (b : List ℕ) → report_length (read_front b).kind (read_front b).mask ≡ ROWS + ROW-SIZE * ones (four_at b MASK)
unfolding read_front
length_from b = ap (λ (i : ℕ). i + ROW-SIZE * ones (four_at b MASK)) (rows_at_kind (kind_of (get_or b KIND 0)))

pub kind_told : (b : List ℕ) → reportb b ≡ true → get_or b KIND 0 ≡ kind_byte (kind_of (get_or b KIND 0))
unfolding reportb frontb read_front
kind_told b e = eqb-true _ _ (search (and_left, and_right) depth 8)

-- ---- the rows

report_rows : (b : List ℕ) (w n : ℕ) → w ≤ 80 → length b ≡ ROWS + ROW-SIZE * n
    → (every (valid_row w) (carried_rows n (drop ROWS b)) ≡ true)
    ↔ ((k : ℕ) → k < n → let at = ROWS + ROW-SIZE * k in ValidRow w b at (at + 1) (at + 1 + 80))
unfolding row_in
report_rows b w n wide size =
    rows_conditions w n b (carried_rows n (drop ROWS b)) (λ k. ROWS + ROW-SIZE * k) (λ k. ROWS + ROW-SIZE * k + 1) (λ k. ROWS + ROW-SIZE * k + 1 + 80) wide
    (length_rows_in n (drop ROWS b)) (λ k h. (omega arith, omega arith)) (λ k h. row_at_facts ROWS n b k no_row h)

-- ---- the report

pub report_facts : (b : List ℕ) → reportb b ≡ true → ValidReport b
unfolding reportb frontb read_front
report_facts b e =
    let size : length b ≡ ROWS + ROW-SIZE * ones (four_at b MASK) = eqb-true _ _ (search (and_left, and_right) depth 8) ∙ length_from b in
    let h : HeadFacts (head_at b HEAD) = head_facts _ (unfold read_report in search (and_left, and_right) depth 8) in
    let r : every (valid_row (head_at b HEAD).width) (carried_rows (ones (four_at b MASK)) (drop ROWS b)) ≡ true =
    rw (← rows_from b) (unfold read_report in search (and_left, and_right) depth 8) in
    record {
      size = size;
      field = eqb-true _ _ (search (and_left, and_right) depth 8);
      version = eqb-true _ _ (search (and_left, and_right) depth 8);
      kind = fits_kind _ _ (kind_of (get_or b KIND 0)) (kind_told b e) (search (and_left, and_right) depth 8);
      head = head_conditions _ h;
      rows = (report_rows b _ _ h.width_to size).0 r;
    }

pub facts_report : (b : List ℕ) → ValidReport b → reportb b ≡ true
unfolding reportb frontb read_front
facts_report b v =
    let n = v.size ∙ sym (length_from b) in
    let f = v.field in
    let o = v.version in
    let t = kind_fits _ _ v.kind in
    let k = t.byte in
    let m = t.fits in
    let g = conditions_head _ v.head in
    let h : valid_head (read_report b).front.head ≡ true = unfold read_report in head_valid _ g in
    let r : every (valid_row (read_report b).front.head.width) (read_report b).rows ≡ true =
    rw (rows_from b) (unfold read_report in (report_rows b _ _ g.width_to v.size).1 v.rows) in
    search tests depth 8
