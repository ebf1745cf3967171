-- Document 01, "What a call answers": the number of a refusal, and what a call leaves in a slice that it writes.
-- Assumes nothing.
use Rattle.std.specs.Prelude.{if◌then◌else◌, ℕ, ◌+◌, ◌≡◌, List, ◌++◌, length, drop, eqb, ltb, Bool, Result, Ok, Err}
use Rattle.octets.specs.declared.answer.Refusal.{Refusal}
use Rattle.octets.specs.declared.answer.Refusal.TheVariants.{WrongLength, BrokenLayout, OutOfRange, SpentSerial, BrokenReport, WidthWithoutRows, LongInput, SplitLineEnd}

-- the number that refusal k answers
abbrev pub refused : ℕ → ℕ
refused k = 4294967040 + k

-- the documents' number of a refusal
abbrev pub number_of : Refusal → ℕ
number_of WrongLength = 1
number_of BrokenLayout = 2
number_of OutOfRange = 3
number_of SpentSerial = 4
number_of BrokenReport = 5
number_of WidthWithoutRows = 6
number_of LongInput = 7
number_of SplitLineEnd = 13

-- the number of the refusal that a test has found, 0 for none
abbrev pub found : {A : Type 0} → Result A Refusal → ℕ
found (Ok x) = 0
found (Err e) = number_of e

-- what a call answers, where the code says what it does, or why it is refused; and one that has nothing to tell
abbrev pub answered : Result ℕ Refusal → ℕ
answered (Ok n) = n
answered (Err e) = refused (number_of e)

abbrev pub done : Result Unit Refusal → ℕ
done (Ok x) = 0
done (Err e) = refused (number_of e)

-- the number that a call answers, and the bytes that it leaves in the slice that it writes
pub record Written : Type 0 where
  pub number : ℕ
  pub bytes : List ℕ

-- how a contract says so of a call: n is the number answered, and `bytes` what the slice holds at exit
pub record Writes (o : Written) (n : ℕ) (bytes : List ℕ) : Type 0 where
  pub number : n ≡ o.number
  pub left : bytes ≡ o.bytes

-- refusal k changes no lent byte; 0 is no refusal
unfoldable pub unless : ℕ → List ℕ → Written → Written
unless k l o = if eqb k 0 then o else record { number = refused k; bytes = l }

-- a text written to the front of an output: later bytes are unchanged
abbrev pub over : List ℕ → List ℕ → List ℕ
over text out = text ++ drop (length text) out

-- a call that writes a text answers its length
unfoldable pub wrote : List ℕ → List ℕ → Written
wrote text out = record { number = length text; bytes = over text out }

-- a number above 4,294,967,040 is that of a refusal
unfoldable pub is_refusal : ℕ → Bool
is_refusal number = ltb (refused 0) number
