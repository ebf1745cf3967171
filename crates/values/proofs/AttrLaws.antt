-- The two nibbles of an attribute, by shift and mask.
-- Assumes nothing.
use Prim.Native.Nat.{ℕ, ◌+◌, ◌*◌, ◌/◌, ◌%◌, ◌<◌}
use mathlib.Core.Path.{◌≡◌}
use native.Mathlib.Nat.{mod-eq_of_lt}
use native.Mathlib.Omega.{arith}
use lib.Bits.{bit_and, bit_or, and_mask, or_shifted}
use Rattle.values.specs.declared.attr.Attr.{Attr}
use Rattle.values.specs.Attr.{attr_of, byte_of}

-- an attribute from a byte
pub attr_split : (b : ℕ) → ◌≡◌ {A = Attr} (record { foreground = bit_and b 15; background = b / 16 }) (attr_of b)
unfolding attr_of
attr_split b = λ i. record { foreground = and_mask b 4 i; background = b / 16 }

-- a byte from an attribute
pub attr_joined : (a : Attr) → bit_or (bit_and a.background 15 * 16 % 256) (bit_and a.foreground 15) ≡ byte_of a
unfolding byte_of
attr_joined a =
    let g : bit_and a.background 15 ≡ a.background % 16 = and_mask a.background 4 in
    let f : bit_and a.foreground 15 ≡ a.foreground % 16 = and_mask a.foreground 4 in
    rw (g, f, mod-eq_of_lt {n = a.background % 16 * 16} {m = 256} (omega arith)) (or_shifted (a.background % 16) 4 (a.foreground % 16) (omega arith))

-- ---- back: an attribute's byte is read as that attribute, and the other way round

pub attr_back : (a : Attr) → a.foreground < 16 → a.background < 16 → attr_of (byte_of a) ≡ a
unfolding attr_of byte_of
attr_back a f b =
    let e : a.foreground % 16 ≡ a.foreground = omega arith in
    let d : a.background % 16 ≡ a.background = omega arith in
    let low : (a.background % 16 * 16 + a.foreground % 16) % 16 ≡ a.foreground = rw (d, e) (omega arith) in
    let high : (a.background % 16 * 16 + a.foreground % 16) / 16 ≡ a.background = rw (d, e) (omega arith) in
    λ i. record { foreground = low i; background = high i }

pub byte_back : (b : ℕ) → b < 256 → byte_of (attr_of b) ≡ b
unfolding attr_of byte_of
byte_back b h = omega arith
