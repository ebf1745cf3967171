-- Document 01, "Reports and mirror": the kinds of reports, 1 step or 2 full. `Kind` is the enum of `src/kind.rt`.
-- Assumes nothing.
use Rattle.std.specs.Prelude.{if◌then◌else◌, ℕ, ◌+◌, ◌*◌, Bool, ltb, eqb}
use Rattle.std.specs.Int.Count.{ones}
use Rattle.grid.specs.Layout.{MASKS}
use Rattle.report.specs.declared.kind.Kind.{Kind}
use Rattle.report.specs.declared.kind.Kind.TheVariants.{Step, Full}
use Rattle.report.specs.Layout.{ROWS, ROW-SIZE, STEP, FULL, ALL-ROWS}

unfoldable pub kind_byte : Kind → ℕ
kind_byte Step = STEP
kind_byte Full = FULL

-- the kind that a byte stands for, if it stands for one
unfoldable pub kind_of : ℕ → Kind
kind_of byte = if eqb byte FULL then Full else Step

-- a step's mask is the touched rows, a full one's is all rows
unfoldable pub mask_of : Kind → ℕ → ℕ
mask_of Step touched = touched
mask_of Full touched = ALL-ROWS

-- an arriving mask is below 2 ^ 25 and, if full, that of all rows
unfoldable pub mask_fits : Kind → ℕ → Bool
mask_fits Step mask = ltb mask MASKS
mask_fits Full mask = eqb mask ALL-ROWS

-- where the rows begin
unfoldable pub rows_at : Kind → ℕ
rows_at Step = ROWS
rows_at Full = ROWS

-- what stands before the rows, and a row for each one in the mask
abbrev pub report_length : Kind → ℕ → ℕ
report_length kind mask = rows_at kind + ROW-SIZE * ones mask
