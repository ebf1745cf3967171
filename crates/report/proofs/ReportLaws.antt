-- `report`: what the rows of a report leave in the output, and what the report calls answer.
-- Assumes nothing.
use Prim.Native.Nat.{ℕ, ◌+◌, ◌-◌, ◌*◌, ◌≤◌, ◌<◌}
use mathlib.Core.Path.{◌≡◌, refl, sym, ap, ap₂, ◌∙◌, subst}
use mathlib.Core.Bool.{Bool, true, false}
use mathlib.Core.List.{List, [], ◌∷◌, ◌++◌, append_assoc, append-nil}
use native.Mathlib.Numerals.{add-one}
use native.Mathlib.Omega.{arith}
use lib.Dec.{leb}
use lib.ListN.{length, take, drop, length-append, drop_of_length-le}
use lib.Seq.{take_all, take_at, drop_at, drop-drop}
use lib.Count.{ones, ones-le}
use mir.Syntax.{w32}
use mir.Val.{Fits}
use borrow.Author.Tests.{leb-true}
use borrow.Rule.Slice.PartMut.{put_mid}
use Rattle.std.specs.Prelude.{if◌then◌else◌}
use Rattle.octets.specs.Answer.{refused, number_of, over, wrote, Writes}
use Rattle.octets.specs.declared.answer.Refusal.{Refusal}
use Rattle.octets.specs.Part.{write}
use Rattle.octets.specs.Refusals.{first_of}
use Rattle.octets.proofs.Found.{unless_err, unless_ok}
use Rattle.octets.proofs.PartLaws.{length_write, write_none, write_append, write_front, put_part}
use Rattle.values.specs.Mask.{has_row}
use Rattle.grid.specs.Layout.{SIZE}
use Rattle.grid.specs.Screen.{Row, no_row, valid_row}
use Rattle.grid.specs.Record.{row_of, rows_of, head_of, read_state, blocks}
use Rattle.grid.specs.Facts.{Valid}
use Rattle.grid.specs.Refusals.{record_tests}
use Rattle.grid.proofs.Record.{blocks_append}
use Rattle.grid.proofs.RefusalLaws.{valid_known, lengths_known}
use Rattle.grid.proofs.RowLaws.{full_row, length_rows, get_d_rows}
use Rattle.report.specs.Layout.{ROWS, ROW-SIZE, LONGEST}
use Rattle.report.specs.declared.kind.Kind.{Kind}
use Rattle.report.specs.declared.front.Front.{Front}
use Rattle.report.specs.Kind.{rows_at, report_length}
use Rattle.report.specs.Carried.{bits, carry}
use Rattle.report.specs.Report.{report_of, report_front, row_bytes, carried_bytes, report_bytes, reported, reporting}
use Rattle.report.specs.Parts.{Fronts}
use Rattle.report.proofs.Carried.{every_carry, length_carry}
use Rattle.report.proofs.RowByRow.{carry_more}
use Rattle.report.proofs.KindLaws.{rows_at_kind}
use Rattle.report.proofs.RoundTrips.{length_carried}

-- ---- the rows of the mask

-- the bytes of those among the first r rows
unfoldable pub carried_to : List ℕ → ℕ → ℕ → List ℕ
carried_to l mask r = carried_bytes (carry (bits r mask) (rows_of l))

-- they are written, and the next row's place is behind them
pub record Carried (l : List ℕ) (mask r at : ℕ) (o o' : List ℕ) : Type 0 where
  pub place : at ≡ length (carried_to l mask r)
  pub most : at ≤ ROW-SIZE * r
  pub left : o' ≡ write o 0 (carried_to l mask r)

pub carry_start : (l : List ℕ) (mask : ℕ) (o : List ℕ) → Carried l mask 0 0 o o
unfolding carried_to carry bits blocks
carry_start l mask o = record { place = refl; most = omega arith; left = sym (write_none o 0) }

-- the row r: t is what `has_row` has answered of it
module _ (at : ℕ) (m l : List ℕ) (mask r : ℕ) (o : List ℕ) (t : Bool) (below : r < 25) (a : Carried l mask r at o m) (is : t ≡ has_row mask r) where
  carried_more : carried_to l mask (r + 1) ≡ carried_to l mask r ++ carried_bytes (if t then row_of l r ∷ [] else [])
  unfolding carried_to
  carried_more =
      ap (λ (k : ℕ). carried_bytes (carry (bits k mask) (rows_of l))) (add-one r)
      ∙ ap carried_bytes (carry_more mask r (rows_of l) no_row (omega (arith, length_rows l)))
      ∙ blocks_append row_bytes _ _
      ∙ ap₂ (λ (b : Bool) (x : Row). carried_bytes (carry (bits r mask) (rows_of l)) ++ carried_bytes (if b then x ∷ [] else [])) (sym is) (get_d_rows l r no_row below)

  pub carry_skip : t ≡ false → Carried l mask (r + 1) at o m
  unfolding blocks
  carry_skip un =
      let e : carried_to l mask (r + 1) ≡ carried_to l mask r =
      carried_more ∙ ap (λ (b : Bool). carried_to l mask r ++ carried_bytes (if b then row_of l r ∷ [] else [])) un ∙ append-nil (carried_to l mask r) in
      record { place = rw e a.place; most = omega (arith, a.most); left = rw e a.left }

  -- x is the row, and s what is written of it
  pub carry_put : (x : Row) (s : List ℕ) → t ≡ true → length l ≡ SIZE → ROW-SIZE * 25 ≤ length o → x ≡ row_of l r → s ≡ row_bytes x
      → Carried l mask (r + 1) (at + ROW-SIZE) o (put_mid at (at + ROW-SIZE - at) m s)
  unfolding blocks
  carry_put x s so len room ex es =
      let A : List ℕ = carried_to l mask r in
      let B : List ℕ = row_bytes (row_of l r) in
      let full = full_row l r len below in
      let k : length B ≡ ROW-SIZE = unfold row_bytes in simp length-append (omega (arith, full.chars80, full.attrs80)) in
      let size : length m ≡ length o = ap length a.left ∙ length_write o 0 A in
      let e : carried_to l mask (r + 1) ≡ A ++ B =
      carried_more ∙ ap (λ (b : Bool). A ++ carried_bytes (if b then row_of l r ∷ [] else [])) so ∙ ap (λ (z : List ℕ). A ++ z) (append-nil B) in
      record {
        place = rw (e, length-append) (omega (arith, a.place, k));
        most = omega (arith, a.most);
        left =
            put_part m at ROW-SIZE s B (es ∙ ap row_bytes ex) k (omega (arith, size, a.most)) ∙ ap₂ (λ (z : List ℕ) (i : ℕ). write z i B) a.left (a.place ∙ omega arith)
            ∙ write_append o 0 A B ∙ ap (write o 0) (sym e);
      }

pub carry_end : (l : List ℕ) (mask r at : ℕ) (o m : List ℕ) → r ≤ 25 → 25 ≤ r → Carried l mask r at o m → ROW-SIZE * 25 ≤ length o
    → m ≡ over (carried_bytes (carry (bits 25 mask) (rows_of l))) o
unfolding carried_to
carry_end l mask r at o m h k a room =
    let done : r ≡ 25 = omega arith in
    a.left ∙ write_front o _ (omega (arith, a.place, a.most)) ∙ ap (λ (i : ℕ). over (carried_bytes (carry (bits i mask) (rows_of l))) o) done

-- ---- a report: f is its front

module _ (kind : Kind) (l : List ℕ) (f : Front) (v : Valid l) (is : Fronts kind l f) where
  abbrev mask : ℕ
  mask = f.mask

  abbrev carried : List ℕ
  carried = carried_bytes (carry (bits 25 mask) (rows_of l))

  few : ones mask ≤ 25
  few = ones-le 25 mask is.small

  carried_size : length carried ≡ ROW-SIZE * ones mask
  carried_size =
      let w : ℕ = (head_of l).width in
      length_carried w (carry (bits 25 mask) (rows_of l)) (every_carry (valid_row w) (bits 25 mask) (rows_of l) v.screen.rows.valid)
      ∙ ap (λ (k : ℕ). ROW-SIZE * k) (length_carry 25 mask (rows_of l) (length_rows l) is.small)

  reported_is : reported kind l ≡ report_front f ++ carried
  unfolding reported report_bytes report_of read_state
  reported_is =
      ap (λ (g : Front). report_front g ++ carried_bytes (carry (bits 25 g.mask) (rows_of l))) (sym is.is ∙ refl)

  pub length_reported : length (reported kind l) ≡ report_length f.kind mask
  length_reported =
      ap length reported_is ∙ (unfold report_front in omega (arith, carried_size, rows_at_kind f.kind))

  pub report_fits : (n : ℕ) → n ≡ report_length f.kind mask → Fits w32 n
  report_fits n e = record { fits = omega (arith, few, rows_at_kind f.kind) }

  -- p is the output once the front is written, and s what is then left of its part behind the front
  pub report_written : (o p s : List ℕ) (from : ℕ) → LONGEST ≤ length o → from ≡ rows_at f.kind → p ≡ report_front f ++ drop (rows_at f.kind) o
      → s ≡ over carried (take (length p - from) (drop from p)) → put_mid from (length p - from) p s ≡ over (reported kind l) o
  report_written o p s from len ef ep es =
      let F : List ℕ = report_front f in
      let D : List ℕ = drop ROWS o in
      let start : from ≡ ROWS = ef ∙ rows_at_kind f.kind in
      let whole : p ≡ F ++ D = ep ∙ ap (λ (i : ℕ). F ++ drop i o) (rows_at_kind f.kind) in
      let n : length F ≡ ROWS = unfold report_front in refl in
      let front : take from p ≡ F = rw (start, whole) (take_at F D ROWS n) in
      let back : drop from p ≡ D = rw (start, whole) (drop_at F D ROWS n) in
      let k : length p - from ≡ length D = omega (arith, ap length whole, length-append F D) in
      let part : take (length p - from) (drop from p) ≡ D = rw (k, back) (take_all (length D) D (omega arith)) in
      let none : drop (length p - from) (drop from p) ≡ [] = rw (k, back) (drop_of_length-le D {i = length D} (omega arith)) in
      let size : length (F ++ carried) ≡ ROWS + length carried = length-append F carried ∙ ap (λ (i : ℕ). i + length carried) n in
      rw (front, none, es, part, reported_is, append-nil, append_assoc, size, drop-drop)

-- ---- the report calls

module _ (kind : Kind) (l o : List ℕ) where
  pub report_refused : (e : Refusal) → number_of e ≡ first_of (record_tests (leb LONGEST (length o)) l) → Writes (reporting kind l o) (refused (number_of e)) o
  unfolding reporting
  report_refused e is = unless_err _ o _ e is

  module _ (none : 0 ≡ first_of (record_tests (leb LONGEST (length o)) l)) where
    pub report_room : LONGEST ≤ length o
    report_room = leb-true LONGEST (length o) (lengths_known (leb LONGEST (length o)) l none)

    -- r is the same as a record, and f the front of its report
    module _ (r : List ℕ) (same : r ≡ l) (f : Front) (i : Fronts kind r f) where
      pub rows_room : (p : List ℕ) (from : ℕ) → from ≡ rows_at f.kind → length p ≡ length o → from + ROW-SIZE * 25 ≤ length p
      rows_room p from e s = omega (arith, rows_at_kind f.kind, report_room)

      pub length_small : (n : ℕ) → n ≡ report_length f.kind f.mask → Fits w32 n
      length_small n e = report_fits kind r f (subst Valid (sym same) (valid_known _ l none)) i n e

      pub report_done : (from n : ℕ) (p s : List ℕ) → from ≡ rows_at f.kind → p ≡ report_front f ++ drop (rows_at f.kind) o
          → s ≡ over (carried_bytes (carry (bits 25 f.mask) (rows_of r))) (take (length p - from) (drop from p)) → n ≡ report_length f.kind f.mask
          → Writes (reporting kind l o) n (put_mid from (length p - from) p s)
      unfolding reporting wrote
      report_done from n p s ef ep es en =
          let v : Valid l = valid_known _ l none in
          let j : Fronts kind l f = subst (λ (x : List ℕ). Fronts kind x f) same i in
          let es' : s ≡ over (carried_bytes (carry (bits 25 f.mask) (rows_of l))) (take (length p - from) (drop from p)) =
          es ∙ ap (λ (x : List ℕ). over (carried_bytes (carry (bits 25 f.mask) (rows_of x))) (take (length p - from) (drop from p))) same in
          unless_ok _ o _ none n _
          (record {
            number = en ∙ sym (length_reported kind l f v j);
            left = report_written kind l f v j o p s from report_room ef ep es';
          })
