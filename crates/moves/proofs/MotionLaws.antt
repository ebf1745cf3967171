-- `motion`: the end of a line.
-- Assumes nothing.
use Prim.Native.Nat.{ℕ, ◌+◌, ◌≤◌, ◌/◌}
use native.Mathlib.Omega.{arith}
use native.Mathlib.Nat.{div-le_self}
use mir.Syntax.{w64}
use mir.Val.{Fits}
use Rattle.grid.specs.Screen.{Screen}
use Rattle.grid.proofs.Validity.{editable_to}
use Rattle.line.specs.Given.{SpanOf}
use Rattle.line.specs.Line.{MAX-LOGICAL}

-- ---- `end_of_line`: start to end is the span of the cursor's row, n the length of its text

pub end_row_fits : (s : Screen) (start end n w : ℕ) → SpanOf s s.head.cursor.row start end → n ≤ MAX-LOGICAL → Fits w64 (start + n / w)
end_row_fits s start end n w span most =
    let a : n / w ≤ n = div-le_self n w in
    record { fits = omega (arith, editable_to s.head.keys) }
