-- The bytes of a report are read back as that report, and pass the test; and the other way round.
-- Assumes nothing.
use Prim.Native.Nat.{ℕ, ◌+◌, ◌*◌, ◌<◌, zero, suc}
use mathlib.Core.Path.{◌≡◌, refl, sym, ap, ◌∙◌}
use mathlib.Core.Bool.{true}
use mathlib.Core.List.{List, [], ◌∷◌, ◌++◌, append_assoc}
use native.Mathlib.Omega.{arith}
use lib.ListN.{length, get_or, take, drop, length-append, length-drop, take-append-drop, drop_of_length-le}
use lib.Seq.{take_at, drop_at, drop-drop, drop-cons}
use lib.Count.{ones, ones-le}
use Rattle.octets.specs.Number.{number2, four_at, bytes2}
use Rattle.octets.specs.Part.{window}
use Rattle.octets.specs.Test.{every, is_byte}
use Rattle.octets.proofs.Bools.{and_left, and_right, tests}
use Rattle.octets.proofs.NumberLaws.{whole4, whole2, is_byte_lt, two_back, four_bytes}
use Rattle.values.proofs.AttrLaws.{byte_back}
use Rattle.grid.proofs.HeadLaws.{head_whole, bits_back}
use Rattle.grid.specs.Layout.{MASKS}
use Rattle.grid.specs.Facts.{PairFits}
use Rattle.grid.specs.Screen.{Row, valid_head, valid_row}
use Rattle.grid.specs.Pair.{pair_at}
use Rattle.grid.specs.Record.{blocks, head_at, row_from}
use Rattle.grid.proofs.PairLaws.{pair_whole, pair_again}
use Rattle.grid.proofs.Record.{heads_eq}
use Rattle.grid.proofs.Validity.{head_facts, row_facts}
use Rattle.report.specs.Layout.{REPORT-VERSION, KIND, REPORT-PAIR, MASK, HEAD, ROWS, ROW-SIZE}
use Rattle.report.specs.declared.front.Front.{Front}
use Rattle.report.specs.Kind.{kind_byte, mask_fits, report_length}
use Rattle.report.specs.Report.{Report, report_front, row_bytes, carried_bytes, report_bytes, read_front, row_in, carried_rows, read_report, frontb, reportb}
use Rattle.report.proofs.KindLaws.{rows_at_kind, kind_back, mask_lt}
use Rattle.report.proofs.Conditions.{front_from, mask_from, rows_from, length_from, kind_told, report_facts}

row_size : (w : ℕ) (x : Row) → valid_row w x ≡ true → length (row_bytes x) ≡ ROW-SIZE
unfolding row_bytes
row_size w x v = let f = row_facts w x v in simp length-append (omega (arith, f.chars80, f.attrs80))

pub length_carried : (w : ℕ) (rows : List Row) → every (valid_row w) rows ≡ true → length (carried_bytes rows) ≡ ROW-SIZE * length rows
unfolding blocks every
length_carried w [] v = omega arith
length_carried w (x ∷ rows) v =
    let n = row_size w x (and_left (valid_row w x) _ v) in
    let ih = length_carried w rows (and_right (valid_row w x) _ v) in
    simp length-append (omega arith)

-- a row's bytes, and what follows them
row_back : (w : ℕ) (x : Row) (more : List ℕ) → valid_row w x ≡ true → row_in (row_bytes x ++ more) 0 ≡ x
unfolding row_in row_from row_bytes window
row_back w x more v =
    let f = row_facts w x v in
    let tail = x.attrs ++ more in
    let join : (x.chars ++ x.attrs) ++ more ≡ x.chars ++ tail = append_assoc x.chars x.attrs more in
    let c : take 80 ((x.chars ++ x.attrs) ++ more) ≡ x.chars = ap (take 80) join ∙ take_at x.chars tail 80 f.chars80 in
    let a : take 80 (drop 80 ((x.chars ++ x.attrs) ++ more)) ≡ x.attrs =
    ap (λ (l : List ℕ). take 80 (drop 80 l)) join ∙ ap (take 80) (drop_at x.chars tail 80 f.chars80) ∙ take_at x.attrs more 80 f.attrs80 in
    λ i. record { flag = x.flag; chars = c i; attrs = a i }

carried_back : (w : ℕ) (rows : List Row) → every (valid_row w) rows ≡ true → carried_rows (length rows) (carried_bytes rows) ≡ rows
unfolding carried_rows blocks every
carried_back w [] v = refl
carried_back w (x ∷ rows) v =
    let here = and_left (valid_row w x) _ v in
    let rest : carried_rows (length rows) (drop ROW-SIZE (row_bytes x ++ carried_bytes rows)) ≡ rows =
    ap (carried_rows (length rows)) (drop_at (row_bytes x) (carried_bytes rows) ROW-SIZE (row_size w x here))
    ∙ carried_back w rows (and_right (valid_row w x) _ v) in
    λ i. row_back w x (carried_bytes rows) here i ∷ rest i

pub record ReportFacts (r : Report) : Type 0 where
  pub pair : PairFits r.front.pair
  pub mask : mask_fits r.front.kind r.front.mask ≡ true
  pub head : valid_head r.front.head ≡ true
  pub rows : every (valid_row r.front.head.width) r.rows ≡ true
  pub carried : length r.rows ≡ ones r.front.mask

module _ (r : Report) (f : ReportFacts r) where
  small : r.front.mask < MASKS
  small = mask_lt r.front.kind r.front.mask f.mask

  front_back : read_front (report_bytes r) ≡ r.front
  unfolding read_front report_bytes report_front head_at pair_at
  front_back =
      let h = head_facts r.front.head f.head in
      λ i. record {
        kind = kind_back r.front.kind i;
        pair = pair_whole r.front.pair f.pair i;
        mask = whole4 r.front.mask (omega (arith, small)) i;
        head = head_whole r.front.head h i;
      }

  rows_back : drop ROWS (report_bytes r) ≡ carried_bytes r.rows
  unfolding report_bytes report_front
  rows_back = refl

  pub report_back : read_report (report_bytes r) ≡ r
  report_back =
      let front : (read_report (report_bytes r)).front ≡ r.front = front_from (report_bytes r) ∙ front_back in
      let mask : ones (four_at (report_bytes r) MASK) ≡ length r.rows =
      ap ones (mask_from (report_bytes r) ∙ ap (λ (g : Front). g.mask) front_back) ∙ sym f.carried in
      let rows = rows_from (report_bytes r) ∙ (λ i. carried_rows (mask i) (rows_back i)) ∙ carried_back r.front.head.width r.rows f.rows in
      λ i. record { front = front i; rows = rows i }

  length_back : length (report_bytes r) ≡ report_length r.front.kind r.front.mask
  unfolding report_bytes report_front
  length_back = omega (arith, length_carried r.front.head.width r.rows f.rows, f.carried, rows_at_kind r.front.kind)

  pub report_passes : reportb (report_bytes r) ≡ true
  unfolding reportb frontb
  report_passes =
      let b = report_bytes r in
      let n : number2 (get_or b 0 0) (get_or b 1 0) ≡ length b =
      unfold report_bytes report_front in (whole2 _ (omega (arith, ones-le 25 r.front.mask small, rows_at_kind r.front.kind)) ∙ sym length_back) in
      let v : get_or b 2 0 ≡ REPORT-VERSION = unfold report_bytes report_front in refl in
      let k : get_or b KIND 0 ≡ kind_byte r.front.kind = unfold report_bytes report_front in refl in
      let l = length_back in
      let m = f.mask in
      let h = f.head in
      let x = f.rows in
      rw (report_back, front_back) (search tests depth 8)

-- ---- the other way round

row_again : (b : List ℕ) → ROW-SIZE < 1 + length b → row_bytes (row_in b 0) ++ drop ROW-SIZE b ≡ b
unfolding row_bytes row_in row_from window
row_again b h =
    let attrs : take 80 (drop 81 b) ++ drop ROW-SIZE b ≡ drop 81 b =
    ap (λ (x : List ℕ). take 80 (drop 81 b) ++ x) (sym (drop-drop 80 81 b)) ∙ take-append-drop 80 (drop 81 b) in
    let chars : take 80 (drop 1 b) ++ drop 81 b ≡ drop 1 b =
    ap (λ (x : List ℕ). take 80 (drop 1 b) ++ x) (sym (drop-drop 80 1 b)) ∙ take-append-drop 80 (drop 1 b) in
    ap (λ (x : List ℕ). get_or b 0 0 ∷ x) (append_assoc (take 80 (drop 1 b)) (take 80 (drop 81 b)) (drop ROW-SIZE b))
    ∙ ap (λ (x : List ℕ). get_or b 0 0 ∷ (take 80 (drop 1 b) ++ x)) attrs ∙ ap (λ (x : List ℕ). get_or b 0 0 ∷ x) chars ∙ sym (drop-cons b 0 0 (omega arith))

carried_again : (n : ℕ) (b : List ℕ) → length b ≡ ROW-SIZE * n → carried_bytes (carried_rows n b) ≡ b
unfolding blocks carried_rows
carried_again zero b h = sym (drop_of_length-le b {i = 0} (omega arith))
carried_again (suc n) b h =
    ap (λ (x : List ℕ). row_bytes (row_in b 0) ++ x) (carried_again n (drop ROW-SIZE b) (omega (arith, length-drop ROW-SIZE b))) ∙ row_again b (omega arith)

pub report_bytes_back : (b : List ℕ) → reportb b ≡ true → every is_byte b ≡ true → report_bytes (read_report b) ≡ b
unfolding report_bytes report_front read_report read_front head_at pair_at
report_bytes_back b p q =
    let v = report_facts b p in
    let byte : (j : ℕ) → j < length b → get_or b j 0 < 256 = λ j k. is_byte_lt b j q k in
    let n : bytes2 (report_length (read_front b).kind (read_front b).mask) ≡ get_or b 0 0 ∷ get_or b 1 0 ∷ [] =
    ap bytes2 (length_from b ∙ sym (v.field ∙ v.size)) ∙ two_back (get_or b 0 0) (get_or b 1 0) (byte 0 (omega (arith, v.size))) (byte 1 (omega (arith, v.size))) in
    let s = pair_again b REPORT-PAIR q (omega (arith, v.size)) in
    let m = four_bytes b MASK q (omega (arith, v.size)) in
    let bits = bits_back (get_or b (HEAD + 3) 0) v.head.cr in
    let a = byte_back (get_or b (HEAD + 5) 0) (byte (HEAD + 5) (omega (arith, v.size))) in
    let r : carried_bytes (read_report b).rows ≡ drop ROWS b =
    ap carried_bytes (rows_from b) ∙ carried_again (ones (four_at b MASK)) (drop ROWS b) (omega (arith, length-drop ROWS b, v.size)) in
    let k = kind_told b p in
    (λ i.
    (n i ++ (sym v.version i ∷ sym k i ∷ []) ++ s i ++ m i
    ++ (get_or b HEAD 0 ∷ get_or b (HEAD + 1) 0 ∷ get_or b (HEAD + 2) 0 ∷ bits i ∷ get_or b (HEAD + 4) 0 ∷ a i ∷ [])) ++ r i)
    ∙ heads_eq ROWS 0 b (omega (arith, v.size))
