-- Document 01, "What a call answers": when exactly the strip call is refused. The conditions are written out here, apart from the tests by which
-- `specs/Keys.antt` finds a refusal. `proofs/Refusals.antt` has that the call answers by them. t is the lent table and out the lent output.
-- Assumes nothing.
use Rattle.std.specs.Prelude.{ℕ, ◌+◌, ◌*◌, ◌≤◌, ◌<◌, ◌≡◌, List, ◌⊎◌, ◌≢◌, length, get_or}
use Rattle.octets.specs.Answer.{refused, wrote}
use Rattle.octets.specs.Refusals.{Refuses}
use Rattle.octets.specs.Width.{IsWidth}
use Rattle.keys.specs.Keys.{macros_of, lengths_of, strip, stripping}

-- a key of the table has a length above 15, or a byte that is not in use and not 0
abbrev pub BadKey : List ℕ → ℕ → Type 0
BadKey t k =
    let n = get_or t (16 * k) 0 in
    (15 < n) ⊎ ((i : ℕ) × (n ≤ i) × (i < 15) × (get_or t (16 * k + 1 + i) 0 ≢ 0))

pub data StripRefused (t : List ℕ) (offset width : ℕ) (out : List ℕ) : ℕ → Type 0 where
  table_length : length t ≢ 160 → StripRefused t offset width out 1
  -- the output is exactly the width asked; of a bad width its length is not tested
  output_length : IsWidth width → length out ≢ width → StripRefused t offset width out 1
  -- one of ten keys is bad
  layout : (k : ℕ) → k < 10 → BadKey t k → StripRefused t offset width out 2
  -- strip takes 40 or 80, and an offset 0 to 9
  width_argument : ¬ IsWidth width → StripRefused t offset width out 3
  offset_argument : 9 < offset → StripRefused t offset width out 3

pub record StrippingAnswers (t : List ℕ) (offset width : ℕ) (out : List ℕ) : Type 0 where
  pub number : Refuses (StripRefused t offset width out) (stripping t offset width out).number
  pub kept : refused 1 ≤ (stripping t offset width out).number → (stripping t offset width out).bytes ≡ out
  pub done : (stripping t offset width out).number < refused 1 → stripping t offset width out ≡ wrote (strip (macros_of t) (lengths_of t) offset width) out
  -- its length is the width asked
  pub answers : (stripping t offset width out).number < refused 1 → (stripping t offset width out).number ≡ width
