-- `number`: numbers of two and of four bytes, written and read back.
-- Assumes nothing.
use Prim.Native.Nat.{ℕ, ◌+◌, ◌*◌, ◌/◌, ◌%◌, ◌≤◌, ◌<◌}
use mathlib.Core.Path.{◌≡◌}
use mathlib.Core.Bool.{true, ◌&&◌}
use mathlib.Core.List.{List, [], ◌∷◌}
use native.Mathlib.Nat.{div-add-mod'}
use native.Mathlib.Omega.{arith}
use native.Mathlib.Decide.{ℕ_discrete}
use lib.Dec.{eqb}
use lib.ListN.{length, get_or}
use lib.Pow.{shr-shr}
use borrow.Author.Tests.{ltb-true, eq-eqb, ne_eqb}
use Rattle.octets.specs.Test.{every, is_byte}
use Rattle.octets.specs.Number.{number4, bytes4, number2, four_at, bytes2}
use Rattle.octets.proofs.Bools.{every_at}

pub is_byte_lt : (l : List ℕ) (i : ℕ) → every is_byte l ≡ true → i < length l → get_or l i 0 < 256
unfolding is_byte
is_byte_lt l i b h = ltb-true _ _ (every_at is_byte l i 0 b h)

-- omega reads one quotient at a time
sum4 : (n x y z a b c : ℕ) → x * 256 + a ≡ n → y * 256 + b ≡ x → z * 256 + c ≡ y → z * 16777216 + c * 65536 + b * 256 + a ≡ n
sum4 n x y z a b c p q r = omega arith

pub whole4 : (n : ℕ) → n < 4294967296 → n / 16777216 % 256 * 16777216 + n / 65536 % 256 * 65536 + n / 256 % 256 * 256 + n % 256 ≡ n
whole4 n h =
    let d : n / 256 / 256 ≡ n / 65536 = shr-shr n 8 8 in
    let e : n / 65536 / 256 ≡ n / 16777216 = shr-shr n 16 8 in
    let t : n / 16777216 % 256 ≡ n / 16777216 = omega arith in
    rw t
    (sum4 n (n / 256) (n / 65536) (n / 16777216) _ _ _ (div-add-mod' n 256) (rw d at (div-add-mod' (n / 256) 256))
    (rw e at (div-add-mod' (n / 65536) 256)))

-- the four bytes of a number that four bytes make
pub four_back : (a b c d : ℕ) → a < 256 → b < 256 → c < 256 → d < 256
    → (number4 a b c d / 16777216 % 256 ≡ a) × (number4 a b c d / 65536 % 256 ≡ b) × (number4 a b c d / 256 % 256 ≡ c) × (number4 a b c d % 256 ≡ d)
four_back a b c d ha hb hc hd =
    let n : ℕ = number4 a b c d in
    let e₁ : n / 256 ≡ a * 65536 + b * 256 + c = omega arith in
    let e₂ : n / 65536 ≡ a * 256 + b = omega arith in
    let e₃ : n / 16777216 ≡ a = omega arith in
    (rw e₃ (omega arith), rw e₂ (omega arith), rw e₁ (omega arith), omega arith)

-- the two bytes of what sixteen bits hold of a number
pub bytes_cut : (n : ℕ) → n % 65536 / 256 ∷ n % 65536 % 256 ∷ [] ≡ bytes2 n
bytes_cut n =
    let high : n % 65536 / 256 ≡ n / 256 % 256 = omega arith in
    let low : n % 65536 % 256 ≡ n % 256 = omega arith in
    λ i. high i ∷ low i ∷ []

-- a test of the number in two bytes is a test of each
pub two_tested : (a b n : ℕ) → b < 256 → eqb (number2 a b) n ≡ eqb a (n / 256) && eqb b (n % 256)
two_tested a b n hb = go (ℕ_discrete a (n / 256)) (ℕ_discrete b (n % 256))
  where
    go : Dec (a ≡ n / 256) → Dec (b ≡ n % 256) → eqb (number2 a b) n ≡ eqb a (n / 256) && eqb b (n % 256)
    go (yes p) (yes q) = rw (eq-eqb a (n / 256) p, eq-eqb b (n % 256) q) (eq-eqb (number2 a b) n (omega arith))
    go (yes p) (no q) = rw (eq-eqb a (n / 256) p, ne_eqb b (n % 256) q) (ne_eqb (number2 a b) n (λ e. q (omega arith)))
    go (no p) t = rw (ne_eqb a (n / 256) p) (ne_eqb (number2 a b) n (λ e. p (omega arith)))

pub whole2 : (n : ℕ) → n < 65536 → n / 256 % 256 * 256 + n % 256 ≡ n
whole2 n h = omega arith

pub two_back : (a b : ℕ) → a < 256 → b < 256 → bytes2 (number2 a b) ≡ a ∷ b ∷ []
two_back a b ha hb =
    let e : number2 a b / 256 ≡ a = omega arith in
    let high : number2 a b / 256 % 256 ≡ a = rw e (omega arith) in
    let low : number2 a b % 256 ≡ b = omega arith in
    λ i. high i ∷ low i ∷ []

pub four_bytes : (l : List ℕ) (i : ℕ) → every is_byte l ≡ true → i + 3 < length l
    → bytes4 (four_at l i) ≡ get_or l i 0 ∷ get_or l (i + 1) 0 ∷ get_or l (i + 2) 0 ∷ get_or l (i + 3) 0 ∷ []
four_bytes l i b h =
    let byte : (j : ℕ) → j < length l → get_or l j 0 < 256 = λ j k. is_byte_lt l j b k in
    let f = four_back _ _ _ _ (byte i (omega arith)) (byte (i + 1) (omega arith)) (byte (i + 2) (omega arith)) (byte (i + 3) (omega arith)) in
    λ j. f.0 j ∷ f.1 j ∷ f.2 j ∷ f.3 j ∷ []

pub four_lt : (l : List ℕ) (i : ℕ) → every is_byte l ≡ true → i + 4 ≤ length l → four_at l i < 4294967296
four_lt l i b h =
    let byte : (k : ℕ) → k < length l → get_or l k 0 < 256 = λ k p. is_byte_lt l k b p in
    let p = byte i (omega arith) in
    let q = byte (i + 1) (omega arith) in
    let r = byte (i + 2) (omega arith) in
    let s = byte (i + 3) (omega arith) in
    omega arith
