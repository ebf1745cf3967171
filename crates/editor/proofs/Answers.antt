-- How large the numbers are that accepted calls answer: no text is longer than the shortest output that is taken, and the rest fits two bytes.
-- Assumes nothing.
use Prim.Native.Nat.{ℕ, ◌+◌, ◌-◌, ◌*◌, ◌≤◌, ◌<◌}
use mathlib.Core.Path.{◌≡◌}
use mathlib.Core.Bool.{true, false, true≢false}
use mathlib.Core.List.{List, [], ◌∷◌}
use native.Mathlib.Omega.{arith}
use lib.ListN.{length, take, length-append, length-take}
use lib.Dec.{leb}
use borrow.Author.Tests.{ltb-true, leb-true}
use Rattle.grid.specs.Layout.{CHARS, ATTRS}
use Rattle.grid.specs.Screen.{Row, Screen, editable, is_empty, trim_by}
use Rattle.values.specs.Attr.{byte_of}
use Rattle.octets.specs.Test.{every, is_byte}
use Rattle.grid.specs.Record.{screen_of}
use Rattle.grid.specs.Facts.{ScreenFacts, Valid}
use Rattle.octets.proofs.Bools.{and_left, and_right, cases}
use Rattle.octets.proofs.NumberLaws.{is_byte_lt}
use Rattle.grid.proofs.Keep.{row_at_facts}
use Rattle.grid.proofs.RowLaws.{char_read, attr_read}
use Rattle.grid.proofs.Trim.{trim_le}
use Rattle.line.proofs.KeptLine.{line_fits}
use Rattle.editor.specs.Text.{is_white, row_texts, join_lines, snapshot}
use Rattle.editor.specs.Outcome.{Query, inside, value, TextCall, room, text_of}
use Rattle.editor.specs.Outcome.Query.{AskWidth, AskCursor, AskAttr, AskEditableRows, AskCell, AskContinues}
use Rattle.editor.specs.Outcome.TextCall.{LogicalText, Snapshot}
use Rattle.editor.proofs.PrintLaws.{row_is}

-- ---- texts

row_text_fits : (w : ℕ) (x : Row) → length (trim_by is_white (take w x.chars)) ≤ w
row_text_fits w x =
    let cut : length (take w x.chars) ≤ w = simp length-take (omega arith) in
    omega (arith, trim_le is_white (take w x.chars))

some_length : (xs : List ℕ) → is_empty xs ≡ false → 0 < length xs
unfolding is_empty
some_length [] e = absurd (true≢false e)
some_length (x ∷ xs) e = omega arith

-- each row has w characters at most, and each but the last a byte 10 after it
lines_fit : (w : ℕ) (rows : List Row) → w ≤ 80 → length (join_lines (row_texts w rows)) ≤ 81 * length rows - 1
unfolding join_lines row_texts
lines_fit w [] h = omega arith
lines_fit w (x ∷ rows) h =
    let most = lines_fit w rows h in
    let here = row_text_fits w x in
    cases (λ (cs : List ℕ). length cs ≤ 81 * length (x ∷ rows) - 1) (is_empty (join_lines (row_texts w rows))) _ _ (λ e. omega arith)
    (λ e. simp length-append (omega (arith, some_length _ e)))

pub snapshot_fits : (s : Screen) → ScreenFacts s → length (snapshot s) ≤ 2024
unfolding snapshot
snapshot_fits s f =
    let rows : List Row = take (editable s.head.keys) s.rows in
    let few : length rows ≤ 25 = simp length-take (omega arith) in
    omega (arith, lines_fit s.head.width rows f.head.width_to)

pub text_fits : (q : TextCall) (s : Screen) → ScreenFacts s → length (text_of q s) ≤ room q
unfolding text_of room
text_fits LogicalText s f = line_fits s
text_fits Snapshot s f = snapshot_fits s f

pub room_most : (q : TextCall) → room q ≤ 2024
unfolding room
room_most LogicalText = omega arith
room_most Snapshot = omega arith

-- ---- the other answers

module _ (l : List ℕ) (v : Valid l) (bytes : every is_byte l ≡ true) where
  pub value_fits : (q : Query) → inside q (screen_of l) ≡ true → value q (screen_of l) < 65536
  unfolding value inside byte_of
  value_fits AskWidth i = omega (arith, v)
  value_fits AskCursor i = omega (arith, v)
  value_fits AskAttr i = omega (arith, v)
  value_fits AskEditableRows i = omega (arith, v)
  value_fits (AskCell r c) i =
      let row = leb-true r 24 (and_left (leb r 24) _ i) in
      let col = ltb-true c (screen_of l).head.width (and_right (leb r 24) _ i) in
      let ch = is_byte_lt l (CHARS + 80 * r + c) bytes (omega (arith, v)) in
      let at = is_byte_lt l (ATTRS + 80 * r + c) bytes (omega (arith, v)) in
      rw (row_is l r (omega arith)) (omega (arith, char_read l r c (omega (arith, v)), attr_read l r c (omega (arith, v))))
  value_fits (AskContinues r) i = let row = leb-true r 24 i in omega (arith, row_at_facts r (omega arith) v.screen.rows)
