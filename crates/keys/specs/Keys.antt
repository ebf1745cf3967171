-- Document 01, "Texts and key strip": the key table, the strip (`FunctionKeys::strip`), and what the strip call answers and leaves.
-- Assumes nothing.
use Rattle.std.specs.Prelude.{if◌then◌else◌, ℕ, zero, suc, ◌+◌, ◌-◌, ◌*◌, ◌/◌, ◌%◌, Bool, true, ◌&&◌, ◌||◌, List, [], ◌∷◌, ◌++◌, map, leb, ltb, eqb, length, get_or, take, drop, replicate}
use Rattle.octets.specs.Refusals.{first_of}
use Rattle.octets.specs.Answer.{Written, unless, wrote}
use Rattle.octets.specs.Test.{every, zerob}
use Rattle.octets.specs.Width.{widthb}
use Rattle.octets.specs.Part.{window}

-- ---- the key table t: ten times a length and fifteen bytes

abbrev pub TABLE_SIZE : ℕ
TABLE_SIZE = 160

abbrev pub KEY_SIZE : ℕ
KEY_SIZE = 16

abbrev pub MACRO_LEN : ℕ
MACRO_LEN = 15

unfoldable pub length_at : List ℕ → ℕ → ℕ
length_at t k = get_or t (KEY_SIZE * k) 0

unfoldable pub macro_at : List ℕ → ℕ → List ℕ
macro_at t k = window t (KEY_SIZE * k + 1) MACRO_LEN

-- a length 0 to 15, and unused bytes 0
unfoldable pub valid_key : List ℕ → ℕ → Bool
valid_key t k = leb (length_at t k) MACRO_LEN && every zerob (drop (length_at t k) (macro_at t k))

unfoldable pub ten_keys : List ℕ
ten_keys = 0 ∷ 1 ∷ 2 ∷ 3 ∷ 4 ∷ 5 ∷ 6 ∷ 7 ∷ 8 ∷ 9 ∷ []

unfoldable pub tableb : List ℕ → Bool
tableb t = eqb (length t) TABLE_SIZE && every (valid_key t) ten_keys

-- what the strip is handed: ten times fifteen bytes, and how many of each are in use
unfoldable pub macros_of : List ℕ → List (List ℕ)
macros_of t = map (macro_at t) ten_keys

unfoldable pub lengths_of : List ℕ → List ℕ
lengths_of t = map (length_at t) ten_keys

-- ---- the strip

-- 13 and 10 become 27, others below 32 and 127 become "."
unfoldable pub display : ℕ → ℕ
display b = if eqb b 13 || eqb b 10 then 27 else if ltb b 32 || eqb b 127 then 46 else b

-- the display bytes of the first n bytes of key k
unfoldable pub displayed : List (List ℕ) → ℕ → ℕ → List ℕ
displayed macros k n = map display (take n (get_or macros k []))

-- the tenth is 0
unfoldable pub digit : ℕ → ℕ
digit k = if eqb k 9 then 48 else 49 + k

-- digit, first six display bytes, spaces to 8 columns
unfoldable pub slot : List (List ℕ) → List ℕ → ℕ → List ℕ
slot macros lengths k =
    let six = take 6 (displayed macros k (get_or lengths k 0)) in
    digit k ∷ (six ++ replicate (7 - length six) 32)

-- n slots from the offset, round ten
unfoldable pub slots_from : List (List ℕ) → List ℕ → ℕ → ℕ → List ℕ
slots_from macros lengths offset zero = []
slots_from macros lengths offset (suc n) = slots_from macros lengths offset n ++ slot macros lengths ((offset + n) % 10)

unfoldable pub strip : List (List ℕ) → List ℕ → ℕ → ℕ → List ℕ
strip macros lengths offset width = slots_from macros lengths offset (width / 8)

-- ---- the strip call: the lent table t and the lent output

-- the output is exactly the width asked; a bad width is refusal 3, and the length is then not tested
unfoldable pub fits : ℕ → ℕ → Bool
fits width len = if widthb width then eqb len width else true

unfoldable pub strip_tests : List ℕ → ℕ → ℕ → List ℕ → List (ℕ × Bool)
strip_tests t offset width out =
    (1, eqb (length t) TABLE_SIZE && fits width (length out)) ∷ (2, tableb t) ∷ (3, widthb width && leb offset 9) ∷ []

unfoldable pub stripping : List ℕ → ℕ → ℕ → List ℕ → Written
stripping t offset width out =
    unless (first_of (strip_tests t offset width out)) out (wrote (strip (macros_of t) (lengths_of t) offset width) out)
