-- Document 01, "Reports and mirror": reports. What one says, its bytes, the test that an arriving slice has to pass, and the report calls.
-- `Front` is the struct of `src/front.rt`: what stands before the rows.
-- Assumes nothing.
use Rattle.std.specs.Prelude.{ℕ, zero, suc, ◌+◌, Bool, ◌&&◌, List, [], ◌∷◌, ◌++◌, leb, eqb, length, get_or, drop}
use Rattle.std.specs.Int.Count.{ones}
use Rattle.octets.specs.Answer.{Written, unless, wrote}
use Rattle.octets.specs.Number.{bytes2, bytes4, number2, four_at}
use Rattle.octets.specs.Refusals.{first_of}
use Rattle.octets.specs.Test.{every}
use Rattle.grid.specs.Pair.{pair_at, pair_bytes}
use Rattle.grid.specs.Record.{blocks, head_at, head_bytes, read_state, row_from}
use Rattle.grid.specs.Refusals.{record_tests}
use Rattle.grid.specs.Screen.{Row, State, valid_head, valid_row}
use Rattle.report.specs.Layout.{REPORT-VERSION, KIND, REPORT-PAIR, MASK, HEAD, ROW-SIZE, LONGEST}
use Rattle.report.specs.declared.kind.Kind.{Kind}
use Rattle.report.specs.declared.front.Front.{Front}
use Rattle.report.specs.Kind.{kind_byte, kind_of, mask_of, mask_fits, rows_at, report_length}
use Rattle.report.specs.Carried.{bits, carry}

pub record Report : Type 0 where
  pub front : Front
  pub rows : List Row

-- ---- making a report

unfoldable pub front_of : Kind → State → Front
front_of kind t = record { kind = kind; pair = t.stamp.pair; mask = mask_of kind t.stamp.touched; head = t.screen.head }

-- it carries the rows of its mask, lowest first
unfoldable pub report_of : Kind → State → Report
report_of kind t = record { front = front_of kind t; rows = carry (bits 25 (front_of kind t).mask) t.screen.rows }

-- ---- its bytes

unfoldable pub report_front : Front → List ℕ
report_front f =
    bytes2 (report_length f.kind f.mask) ++ (REPORT-VERSION ∷ kind_byte f.kind ∷ []) ++ pair_bytes f.pair ++ bytes4 f.mask ++ head_bytes f.head

-- for each row flag, characters, attributes
unfoldable pub row_bytes : Row → List ℕ
row_bytes x = x.flag ∷ (x.chars ++ x.attrs)

abbrev pub carried_bytes : List Row → List ℕ
carried_bytes rows = blocks row_bytes rows

unfoldable pub report_bytes : Report → List ℕ
report_bytes r = report_front r.front ++ carried_bytes r.rows

-- ---- the report calls

-- the report of the record l
unfoldable pub reported : Kind → List ℕ → List ℕ
reported kind l = report_bytes (report_of kind (read_state l))

-- what a report call answers and leaves in the lent output
unfoldable pub reporting : Kind → List ℕ → List ℕ → Written
reporting kind l out = unless (first_of (record_tests (leb LONGEST (length out)) l)) out (wrote (reported kind l) out)

-- ---- an arriving slice

unfoldable pub read_front : List ℕ → Front
read_front b = record { kind = kind_of (get_or b KIND 0); pair = pair_at b REPORT-PAIR; mask = four_at b MASK; head = head_at b HEAD }

-- the row that stands from index a on
unfoldable pub row_in : List ℕ → ℕ → Row
row_in b a = row_from (get_or b a 0) b (a + 1) (a + 1 + 80)

-- n rows, one after the other
unfoldable pub carried_rows : ℕ → List ℕ → List Row
carried_rows zero b = []
carried_rows (suc n) b = row_in b 0 ∷ carried_rows n (drop ROW-SIZE b)

unfoldable pub read_report : List ℕ → Report
read_report b =
    let f = read_front b in
    record { front = f; rows = carried_rows (ones f.mask) (drop (rows_at f.kind) b) }

-- the slice is exactly as long as its mask says, and says so; its version, kind and mask
unfoldable pub frontb : List ℕ → Bool
frontb b =
    let f = read_front b in
    eqb (length b) (report_length f.kind f.mask) && eqb (number2 (get_or b 0 0) (get_or b 1 0)) (length b) && eqb (get_or b 2 0) REPORT-VERSION
    && eqb (get_or b KIND 0) (kind_byte f.kind) && mask_fits f.kind f.mask

-- the other fields obey the record's rules, the rows by the report's own width: else refusal 5
unfoldable pub reportb : List ℕ → Bool
reportb b =
    let r = read_report b in
    frontb b && valid_head r.front.head && every (valid_row r.front.head.width) r.rows
