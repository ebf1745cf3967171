-- Attributes: foreground is the low nibble and background is the high nibble. `Attr` is the struct of `src/attr.rt`.
-- Assumes nothing.
use Rattle.std.specs.Prelude.{ℕ, ◌+◌, ◌*◌, ◌/◌, ◌%◌}
use Rattle.values.specs.declared.attr.Attr.{Attr}

unfoldable pub attr_of : ℕ → Attr
attr_of b = record { foreground = b % 16; background = b / 16 }

unfoldable pub byte_of : Attr → ℕ
byte_of a = a.background % 16 * 16 + a.foreground % 16

abbrev pub normal : Attr
normal = record { foreground = 7; background = 0 }
