-- What the functions that begin, do and end a changing call are told of the call, and what they hand on.
-- Assumes nothing.
use Rattle.std.specs.Prelude.{ℕ, ◌≡◌, Bool, true, List, ◌++◌, drop, length}
use Rattle.octets.specs.Refusals.{first_of, or_else}
use Rattle.grid.specs.Layout.{SIZE, FLAGS}
use Rattle.grid.specs.Pair.{next_pair}
use Rattle.grid.specs.Screen.{Screen, touched_rows}
use Rattle.grid.specs.Record.{rows_of, head_of, screen_of, pair_of, front_bytes}
use Rattle.grid.specs.Refusals.{record_tests}
use Rattle.grid.specs.declared.head.Head.{Head}
use Rattle.grid.specs.declared.pair.Pair.{Pair}
use Rattle.editor.specs.Call.{Call, PrintBytes, lengths, own, apply, answer, last_cr, cr_after}
use Rattle.editor.specs.Outcome.{serial_tests}

-- ---- what refuses a changing call: o is what its own refusals find, 0 for none; long says that every other lent slice has a length that is taken

unfoldable pub change_found : Bool → ℕ → List ℕ → ℕ
change_found long o l = or_else (first_of (record_tests long l)) (or_else o (first_of (serial_tests l)))

-- this is so of the call c on the record l; its own refusals are those of a slice that has a record's length
pub record Tested (c : Call) (long : Bool) (o : ℕ) (l : List ℕ) : Type 0 where
  pub lengths : long ≡ lengths c
  pub own : length l ≡ SIZE → o ≡ first_of (own c (screen_of l))

-- and of a call that lends nothing beside the record, answers 0 and leaves the bit cr
pub record Plain (c : Call) (o cr : ℕ) (l : List ℕ) : Type 0 where
  pub tested : Tested c true o l
  pub answer : answer c (screen_of l) ≡ 0
  pub bit : cr_after c (screen_of l) ≡ cr

-- and of a print that takes all of the bytes bs
pub record Prints (c : Call) (o : ℕ) (bs l : List ℕ) : Type 0 where
  pub plain : Plain c o (last_cr (head_of l).cr bs) l
  pub same : (s : Screen) → apply c s ≡ apply (PrintBytes bs) s

-- ---- what the end of a call leaves, where its work has made l of the record old

-- the head h, the next serial, and touched the rows in which l differs from old
unfoldable pub changed_from : List ℕ → Head → List ℕ → List ℕ
changed_from old h l = front_bytes h (record { pair = next_pair (pair_of old); touched = touched_rows (rows_of old) (rows_of l) }) ++ drop FLAGS l

-- the head h, the pair next, which may be any, and no row touched
unfoldable pub moved_from : Pair → Head → List ℕ → List ℕ
moved_from next h l = front_bytes h (record { pair = next; touched = 0 }) ++ drop FLAGS l

-- the same with the next serial: what a call leaves that changes no row
unfoldable pub moved_next : Head → List ℕ → List ℕ
moved_next h l = moved_from (next_pair (pair_of l)) h l
