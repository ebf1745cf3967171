-- Document 02, (g): what is promised of typing with a limit. The padded content of a screen's line is `content`, the cursor's place in it `index`.
-- Assumes nothing.
use Rattle.std.specs.Prelude.{ℕ, ◌≤◌, ◌<◌, ◌≡◌, true, false, List, ◌⊎◌, length}
use Rattle.octets.specs.Answer.{is_refusal}
use Rattle.octets.specs.Test.{every, is_byte}
use Rattle.grid.specs.Conditions.{ValidRecord}
use Rattle.grid.specs.Screen.{with_bit, printable}
use Rattle.grid.specs.Record.{screen_of, touched_of}
use Rattle.line.specs.Line.{content, index}
use Rattle.editor.specs.Call.Call.{TypeChar, TypeLimited}
use Rattle.editor.specs.Outcome.{changing}

pub record LimitedTyping : Type 0 where
  -- "At L = 255 it is the old call": on every lent slice, refused or accepted
  pub at_255 : (ch : ℕ) (l : List ℕ) → changing (TypeLimited ch 255) l ≡ changing (TypeChar ch) l
  -- "Where padded content already holds L or more, inserting and extending change nothing": the screen is as it was, with the bit of (l) cleared as by every
  -- call that is no print, and no row is touched
  pub full : (ch limit : ℕ) (l : List ℕ) → every is_byte l ≡ true → ValidRecord l → is_refusal (changing (TypeLimited ch limit) l).number ≡ false
      → let s = screen_of l in
      limit ≤ length (content s) → (s.head.insert ≡ 1) ⊎ (length (content s) ≤ index s)
      → (screen_of (changing (TypeLimited ch limit) l).rec ≡ with_bit s 0) × (touched_of (changing (TypeLimited ch limit) l).rec ≡ 0)
  -- "overwriting inside it still works": with insert off and the cursor inside the content it is the old call, however long the line is
  pub typed_over : (ch limit : ℕ) (l : List ℕ) → 1 ≤ limit → limit ≤ 255
      → let s = screen_of l in
      s.head.insert ≡ 0 → index s < length (content s) → changing (TypeLimited ch limit) l ≡ changing (TypeChar ch) l
  -- and so it is where the content holds fewer
  pub with_room : (ch limit : ℕ) (l : List ℕ) → 1 ≤ limit → limit ≤ 255 → length (content (screen_of l)) < limit
      → changing (TypeLimited ch limit) l ≡ changing (TypeChar ch) l
  -- so a host sees by the cursor that a field was full: nothing else keeps it still, where the character is one that can be typed
  pub cursor_tells : (ch limit : ℕ) (l : List ℕ) → every is_byte l ≡ true → ValidRecord l → is_refusal (changing (TypeLimited ch limit) l).number ≡ false
      → printable ch ≡ true → let s = screen_of l in
      (screen_of (changing (TypeLimited ch limit) l).rec).head.cursor ≡ s.head.cursor
      → (limit ≤ length (content s)) × ((s.head.insert ≡ 1) ⊎ (length (content s) ≤ index s))
  -- "at most 60 characters where the planner allows 255": a content that holds at most L holds at most L afterwards, on any valid record, refused or accepted
  pub field_kept : (ch limit : ℕ) (l : List ℕ) → every is_byte l ≡ true → ValidRecord l → length (content (screen_of l)) ≤ limit
      → length (content (screen_of (changing (TypeLimited ch limit) l).rec)) ≤ limit
