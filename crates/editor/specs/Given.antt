-- What the functions of `editor` are given, and what some of them hand on: facts and names for contracts, beside the rules.
-- Assumes nothing.
use Rattle.std.specs.Prelude.{if◌then◌else◌, ℕ, ◌+◌, ◌-◌, ◌≤◌, ◌<◌, ◌≡◌, Bool, List, ◌++◌, length, get_or, take, drop, ltb}
use Rattle.grid.specs.Screen.{Row, Screen}
use Rattle.grid.specs.Record.{Becomes, Leaves}
use Rattle.grid.specs.declared.head.Head.{Head}
use Rattle.line.specs.Splice.{splice}
use Rattle.editor.specs.declared.print.Went.{Went}
use Rattle.editor.specs.declared.print.Run.{Run}
use Rattle.editor.specs.declared.print.Effect.{Effect}
use Rattle.editor.specs.declared.print.Effect.TheVariants.{Newline, Char, Nothing}
use Rattle.editor.specs.Print.{Advanced, still, next_row, newline, put_char, print_byte, print}
use Rattle.editor.specs.Waiting.{taken, scrolls_of}
use Rattle.editor.specs.Call.{PrintWaiting, apply}

-- the screen s, where the editing content cs loses the character at index i, if it has one there
unfoldable pub without : Screen → List ℕ → ℕ → Screen
without s cs i = if ltb i (length cs) then splice s (take i cs ++ drop (i + 1) cs) i else s

-- printing on the record l, as far as a says: rows and head of its screen, and the number of its scrolls, where w is handed back
pub record Advances (a : Advanced) (l l' : List ℕ) (w : Went) : Type 0 where
  pub becomes : Becomes l l' a.screen.rows
  pub head : w.pen.head ≡ a.screen.head
  pub scrolls : w.scrolls ≡ a.scrolls

-- what printing the byte b does that has this effect
unfoldable pub effected : Effect → Screen → ℕ → Advanced
effected Newline s b = newline s
effected Char s b = put_char s b
effected Nothing s b = still s

-- the byte b has the effect e on every screen
pub record Effects (cr : Bool) (b : ℕ) (e : Effect) : Type 0 where
  pub does : (s : Screen) → print_byte cr s b ≡ effected e s b

-- the step to the next row, of a screen with the head h, scrolls k rows
pub record NextScrolls (h : Head) (k : ℕ) : Type 0 where
  pub made : (rows : List Row) → k ≡ (next_row (record { head = h; rows = rows })).scrolls

-- the bytes from i up to `to` make at most `left` scrolls; if there are none, the next byte would make more
pub record Reaches (cr : Bool) (s : Screen) (bs : List ℕ) (i left to : ℕ) : Type 0 where
  pub from : i ≤ to
  pub within : to ≤ length bs
  pub few : (print cr s (take (to - i) (drop i bs))).scrolls ≤ left
  pub stop : to ≡ i → left < (print_byte cr s (get_or bs i 0)).scrolls

-- on the screen s a waiting print of bs has made the record l' of l: what it leaves, how many bytes it took and how many rows they scrolled
pub record Waits (bs : List ℕ) (rows : ℕ) (s : Screen) (l l' : List ℕ) (w : Run) : Type 0 where
  pub leaves : Leaves (apply (PrintWaiting bs rows) s) l l' w.head
  pub front : take w.taken bs ≡ taken s rows bs
  pub to : w.taken ≤ length bs
  pub scrolled : w.scrolls ≡ scrolls_of s (taken s rows bs)
  pub most : w.scrolls ≤ rows
