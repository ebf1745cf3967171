-- The loop of `line::chars::joined_rows`.
use mathlib.Core.Path.{◌≡◌}
use Prim.Native.Nat.{◌-◌, ◌*◌, min}
use lib.ListN.{length, replicate}
use Rattle.line.specs.Line.{MAX-LOGICAL}
use Rattle.line.specs.Text.{line_from}
use Rattle.octets.specs.Part.{write}
use Rattle.line.proofs.chars.joined_rows.Given as goal

abbrev pub invariant-loop-r : goal.invariant-loop-r
invariant-loop-r l = (length l.bytes ≡ MAX-LOGICAL)
    × (l.bytes ≡ write (replicate MAX-LOGICAL 32) 0 (line_from l.s l.span.start (min l.len ((l.r - l.span.start) * l.w))))
