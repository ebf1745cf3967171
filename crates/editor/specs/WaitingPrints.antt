-- Document 02, (a): what is promised of the waiting print.
-- Assumes nothing.
use Rattle.std.specs.Prelude.{ℕ, ◌+◌, ◌/◌, ◌%◌, ◌≤◌, ◌<◌, ◌≡◌, true, false, List, [], ◌∷◌, ◌++◌, ◌⊎◌, length, take, drop}
use Rattle.octets.specs.Answer.{is_refusal}
use Rattle.octets.specs.Test.{every, is_byte}
use Rattle.grid.specs.Conditions.{ValidRecord}
use Rattle.grid.specs.Screen.{Screen}
use Rattle.grid.specs.Record.{screen_of}
use Rattle.editor.specs.Waiting.{scrolls_of}
use Rattle.editor.specs.Call.{Call}
use Rattle.editor.specs.Call.Call.{PrintBytes, PrintWaiting}
use Rattle.editor.specs.Outcome.{changing}
use Rattle.editor.specs.Lists.{accepted, record_left}

-- ---- what a host reads from the number answered, "bytes taken + 65,536 × rows scrolled"

unfoldable pub bytes_in : ℕ → ℕ
bytes_in n = n % 65536

unfoldable pub rows_in : ℕ → ℕ
rows_in n = n / 65536

-- ---- a host prints bs on the record l by waiting prints, one for each limit: each gets what the one before, by its answer, has not taken

-- what the first of them has not taken
unfoldable pub rest_of : ℕ → List ℕ → List ℕ → List ℕ
rest_of rows l bs = drop (bytes_in (changing (PrintWaiting bs rows) l).number) bs

unfoldable pub waits : List ℕ → List ℕ → List ℕ → List Call
waits [] l bs = []
waits (rows ∷ limits) l bs = PrintWaiting bs rows ∷ waits limits (changing (PrintWaiting bs rows) l).rec (rest_of rows l bs)

-- what all of them have not taken
unfoldable pub rest : List ℕ → List ℕ → List ℕ → List ℕ
rest [] l bs = bs
rest (rows ∷ limits) l bs = rest limits (changing (PrintWaiting bs rows) l).rec (rest_of rows l bs)

-- ---- an accepted one on the screen s that has answered n

pub record Counted (bs : List ℕ) (rows : ℕ) (s : Screen) (n : ℕ) : Type 0 where
  -- "that row count is the number of scrolls the printing rules make", at most the limit
  pub scrolls : rows_in n ≡ scrolls_of s (take (bytes_in n) bs)
  pub within : rows_in n ≤ rows
  -- "stops before the byte that would scroll one row more": all bytes are taken, or with one more there would be one scroll more than the limit
  pub stops : (bytes_in n ≡ length bs) ⊎ ((bytes_in n < length bs) × (scrolls_of s (take (bytes_in n + 1) bs) ≡ rows + 1))
  -- a host's loop ends: with a limit of at least 1, and something to print, a byte is taken
  pub goes_on : 1 ≤ rows → 1 ≤ length bs → 1 ≤ bytes_in n

pub record WaitingPrints : Type 0 where
  pub counted : (bs : List ℕ) (rows : ℕ) (l : List ℕ) → is_refusal (changing (PrintWaiting bs rows) l).number ≡ false
      → Counted bs rows (screen_of l) (changing (PrintWaiting bs rows) l).number
  -- it leaves the record that the old print of the bytes taken leaves; with room for all of its scrolls, that of the whole input
  pub as_print : (bs : List ℕ) (rows : ℕ) (l : List ℕ) → is_refusal (changing (PrintWaiting bs rows) l).number ≡ false
      → (changing (PrintWaiting bs rows) l).rec ≡ (changing (PrintBytes (take (bytes_in (changing (PrintWaiting bs rows) l).number) bs)) l).rec
  pub with_room : (bs : List ℕ) (rows : ℕ) (l : List ℕ) → is_refusal (changing (PrintWaiting bs rows) l).number ≡ false → scrolls_of (screen_of l) bs ≤ rows
      → (changing (PrintWaiting bs rows) l).rec ≡ (changing (PrintBytes bs) l).rec
  -- "Printing the rest afterwards, if accepted, must leave the cells, flags and cursor that one unlimited print leaves", and with the whole screen the bit of
  -- (l): on any valid record, after waiting prints of any limits, by the old print
  pub rest_printed : (limits bs l : List ℕ) → every is_byte l ≡ true → ValidRecord l
      → let calls = waits limits l bs ++ (PrintBytes (rest limits l bs) ∷ []) in
      accepted l calls ≡ calls
      → screen_of (record_left l calls) ≡ screen_of (changing (PrintBytes bs) l).rec
  -- or by waiting prints alone, until nothing is left
  pub rest_waited : (limits bs l : List ℕ) → every is_byte l ≡ true → ValidRecord l → rest limits l bs ≡ [] → accepted l (waits limits l bs) ≡ waits limits l bs
      → screen_of (record_left l (waits limits l bs)) ≡ screen_of (changing (PrintBytes bs) l).rec
