-- `front`: what the front of a report is where it is made and written.
-- Assumes nothing.
use Prim.Native.Nat.{ℕ, zero, ◌≤◌}
use mathlib.Core.Path.{◌≡◌, ap, ◌∙◌, subst}
use mathlib.Core.List.{List, ◌++◌}
use native.Mathlib.Omega.{arith}
use lib.ListN.{length, drop, set}
use Rattle.octets.specs.Part.{write}
use Rattle.octets.specs.Number.{bytes2, bytes4}
use Rattle.octets.proofs.PartLaws.{write_none}
use Rattle.grid.specs.Record.{head_of, head_bytes, stamp_of, read_state}
use Rattle.grid.specs.Facts.{Valid}
use Rattle.grid.specs.declared.head.Head.{Head}
use Rattle.grid.specs.Pair.{pair_bytes}
use Rattle.grid.specs.declared.head.Stamp.{Stamp}
use Rattle.grid.proofs.Record.{heads_eq}
use Rattle.grid.proofs.Validity.{head_fits}
use Rattle.report.specs.Layout.{REPORT-VERSION, KIND, REPORT-PAIR, MASK, HEAD, ROWS, LONGEST}
use Rattle.report.specs.declared.kind.Kind.{Kind}
use Rattle.report.specs.declared.front.Front.{Front}
use Rattle.report.specs.Kind.{kind_byte, mask_of, rows_at, report_length}
use Rattle.report.specs.Report.{front_of, report_front}
use Rattle.report.specs.Parts.{Fronts}
use Rattle.report.proofs.KindLaws.{rows_at_kind, mask_small}

-- ---- the front of a record's report: s is the stamp read, h the head

pub front_made : (kind : Kind) (l : List ℕ) (s : Stamp) (h : Head) (mask : ℕ) → Valid l → s ≡ stamp_of l → h ≡ head_of l → mask ≡ mask_of kind s.touched
    → Fronts kind l (record { kind = kind; pair = s.pair; mask = mask; head = h })
unfolding front_of read_state stamp_of
front_made kind l s h mask v es eh em =
    let e : mask ≡ mask_of kind (stamp_of l).touched = em ∙ ap (λ (x : Stamp). mask_of kind x.touched) es in
    record {
      is = λ i. record { kind = kind; pair = (es i).pair; mask = e i; head = eh i };
      small = rw e (mask_small kind (stamp_of l).touched v.touched);
      fits = rw eh (head_fits (head_of l) v.screen.head);
    }

-- ---- written

-- n is the length, k the byte of the kind
pub fronted : (l m₁ m₂ m₃ m₄ : List ℕ) (f : Front) (n k : ℕ) → n ≡ report_length f.kind f.mask → k ≡ kind_byte f.kind → LONGEST ≤ length l
    → m₁ ≡ write l REPORT-PAIR (pair_bytes f.pair) → m₂ ≡ write m₁ MASK (bytes4 f.mask) → m₃ ≡ write m₂ HEAD (head_bytes f.head)
    → m₄ ≡ write m₃ 0 (bytes2 n) → set (set m₄ 2 REPORT-VERSION) KIND k ≡ report_front f ++ drop (rows_at f.kind) l
unfolding write report_front
fronted l m₁ m₂ m₃ m₄ f n k en ek len e₁ e₂ e₃ e₄ =
    let z : drop (rows_at f.kind) l ≡ drop ROWS l = ap (λ (i : ℕ). drop i l) (rows_at_kind f.kind) in
    rw (e₄, e₃, e₂, e₁, en, ek, z)
    (subst
    (λ (z : List ℕ). set (set (write (write (write (write z REPORT-PAIR (pair_bytes f.pair)) MASK (bytes4 f.mask)) HEAD (head_bytes f.head)) 0 (bytes2 (report_length f.kind f.mask))) 2 REPORT-VERSION) KIND (kind_byte f.kind) ≡ report_front f ++ drop ROWS l)
    (heads_eq ROWS 0 l (omega arith))
    (rw (write_none (drop ROWS l) zero)))
