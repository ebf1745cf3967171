-- What the proofs of `print`'s functions cite: for each way out of the code, that it leaves what the rule says.
-- In them the screen is the head of the pen that goes from hand to hand, over the rows of the record l.
-- Assumes nothing.
use Prim.Native.Nat.{ℕ, ◌+◌, ◌-◌, ◌≤◌, ◌<◌}
use mathlib.Core.Path.{◌≡◌, refl, sym, ap, ap₂, ◌∙◌, subst}
use mathlib.Core.Bool.{Bool, true, false, not, ◌&&◌}
use mathlib.Core.Bool
use mathlib.Core.List.{List, [], ◌∷◌}
use mathlib.Core.Logic.{◌≢◌}
use native.Mathlib.Omega.{arith}
use lib.Dec.{ltb, eqb}
use mir.Syntax.{w64}
use mir.Val.{Fits}
use lib.ListN.{length, get_or, take, drop, set}
use lib.Seq.{length-take-le}
use borrow.Author.Tests.{not-true, not-false, ltb-true, lt-ltb, le-ltb, eq-eqb, ne_eqb}
use Rattle.std.specs.Prelude.{if◌then◌else◌}
use Rattle.grid.specs.Layout.{SIZE, FLAGS}
use Rattle.grid.specs.Screen.{Row, Screen, with_cursor, with_rows, move_to, no_row, row_at, flag_row, set_flag, put_cell, scrolled, blank_row, editable, printable, is_empty, is_space, trim, trim_by}
use Rattle.values.specs.Cursor.{at}
use Rattle.grid.specs.Record.{row_of, rows_of, screen_with, Becomes}
use Rattle.grid.specs.declared.head.Head.{Head}
use Rattle.std.proofs.lemmas.Bool.{cond-true as pick, cond-false as skip}
use Rattle.octets.specs.Test.{every}
use Rattle.octets.proofs.Bools.{and_left, and_right}
use Rattle.grid.proofs.RowLaws.{get_d_rows, and_then}
use Rattle.line.specs.Line.{flagged, row_text}
use Rattle.editor.specs.Print.{Advanced, still, scroll, next_row, row_is_blank, newline, write_cell, put_char, print_byte, print, wrapped}
use Rattle.editor.specs.declared.pen.Pen.{Pen}
use Rattle.editor.specs.declared.print.Went.{Went}
use Rattle.editor.specs.declared.print.Effect.{Effect}
use Rattle.editor.specs.declared.print.Effect.TheVariants.{Newline, Char, Nothing}
use Rattle.editor.specs.Given.{Advances, Effects, effected}
use Rattle.editor.specs.Call.{last_cr}
use Rattle.editor.proofs.PrintParts.{after, follows, byte_only, print_next, print_more, last_next}
use Rattle.editor.proofs.Taken.{bytes_most}

-- ---- a choice that the code has made, and a record that is left as it was

module _ {l m : List ℕ} {w : Went} (b : Bool) (x y : Advanced) where
  pub goes_then : b ≡ true → Advances x l m w → Advances (if b then x else y) l m w
  goes_then e p = rw (pick b x y e) p

  pub goes_else : b ≡ false → Advances y l m w → Advances (if b then x else y) l m w
  goes_else e p = rw (skip b x y e) p

pub goes_still : (l : List ℕ) (pen : Pen) (w : Went) → length l ≡ SIZE → w ≡ record { pen = pen; scrolls = 0 }
    → Advances (still (screen_with pen.head l)) l l w
goes_still l pen w len here = rw here (record { becomes = record { size = len; front = refl; rows = refl }; head = refl; scrolls = refl })

pub row_is : (l : List ℕ) (r : ℕ) → r < 25 → row_at (rows_of l) r ≡ row_of l r
unfolding row_at
row_is l r h = get_d_rows l r no_row h

-- ---- row_is_blank: n is the length of the row's text, t whether each of the characters is a space

pub no_text : (cs : List ℕ) (n : ℕ) → n ≡ length cs → eqb n 0 ≡ is_empty cs
unfolding is_empty
no_text [] n e = rw e
no_text (c ∷ cs) n e = ne_eqb n 0 (λ q. absurd (omega arith))

empty_every : (p : ℕ → Bool) (cs : List ℕ) → is_empty (trim_by p cs) ≡ every p cs
unfolding is_empty trim_by every
empty_every p [] = refl
empty_every p (c ∷ cs) = chosen (p c && is_empty (trim_by p cs)) ∙ ap (λ (b : Bool). p c && b) (empty_every p cs)
  where
    chosen : (b : Bool) → is_empty (if b then [] else c ∷ trim_by p cs) ≡ b
    chosen true = refl
    chosen false = refl

pub only_spaces : (cs : List ℕ) (t : Bool) → t ≡ every is_space cs → t ≡ is_empty (trim cs)
unfolding trim
only_spaces cs t e = e ∙ sym (empty_every is_space cs)

-- ---- next_row: e is what editable_rows has answered

module _ (l : List ℕ) (h : Head) (g : Pen) (e : ℕ) (is : e ≡ editable h.keys) where
  pub next_below : (w : Went) → length l ≡ SIZE → h.cursor.row + 1 < e → g.head ≡ with_cursor h (at (h.cursor.row + 1) 0)
      → w ≡ record { pen = g; scrolls = 0 } → Advances (next_row (screen_with h l)) l l w
  unfolding next_row move_to
  next_below w len lt goes here =
      rw here
      (goes_then _ _ _ (lt-ltb (h.cursor.row + 1) (editable h.keys) (omega arith))
      (record { becomes = record { size = len; front = refl; rows = refl }; head = goes; scrolls = refl }))

  pub next_last : (m : List ℕ) → e ≤ h.cursor.row + 1 → g.head ≡ with_cursor h (at h.cursor.row 0)
      → Becomes l m (scrolled (rows_of l) e (blank_row h.width h.attr)) → Advances (next_row (screen_with h l)) l m (record { pen = g; scrolls = 1 })
  unfolding next_row move_to scroll with_rows
  next_last m le goes p =
      goes_else _ _ _ (le-ltb (h.cursor.row + 1) (editable h.keys) (omega arith)) (record { becomes = rw is at p; head = goes; scrolls = refl })

-- ---- wrapped: f is the flag of the row above

abbrev pub wraps : List ℕ → Head → Bool
wraps l h = wrapped (screen_with h l)

module _ (l : List ℕ) (pen : Pen) (v : Bool) where
  abbrev r : ℕ
  r = pen.head.cursor.row

  module _ (no : v ≡ false) where
    pub wraps_col : pen.head.cursor.col ≢ 0 → v ≡ wraps l pen.head
    unfolding wrapped
    wraps_col ne = rw (ne_eqb pen.head.cursor.col 0 ne) no

    pub wraps_row : ltb 0 r ≡ false → v ≡ wraps l pen.head
    unfolding wrapped
    wraps_row e = simp (e, Bool.and-false) no

  module _ (f : ℕ) (above : Row) (up : above ≡ row_of l (r - 1)) (is : f ≡ above.flag) where
    flag : f ≡ (row_at (rows_of l) (r - 1)).flag
    flag = is ∙ ap (λ (x : Row). x.flag) (up ∙ sym (row_is l (r - 1) (omega arith)))

    pub wraps_flag : eqb f 1 ≡ false → v ≡ false → v ≡ wraps l pen.head
    unfolding wrapped flagged
    wraps_flag ne none = simp (← flag, ne, Bool.and-false) none

    pub wraps_blank : (here : Row) → pen.head.cursor.col ≡ 0 → 0 < r → eqb f 1 ≡ true → here ≡ row_of l r → v ≡ is_empty (trim (take pen.head.width here.chars))
        → v ≡ wraps l pen.head
    unfolding wrapped flagged row_is_blank row_text
    wraps_blank here col row on cursor e =
        let same : here ≡ row_at (rows_of l) r = cursor ∙ sym (row_is l r (omega arith)) in
        rw (eq-eqb pen.head.cursor.col 0 col, lt-ltb 0 r row, ← flag, on, ← same) e

-- ---- newline: t is what wrapped has answered

module _ (l m : List ℕ) (pen : Pen) (t : Bool) (is : t ≡ wraps l pen.head) where
  abbrev h : Head
  h = pen.head

  pub row_above : not t ≡ false → 0 < h.cursor.row
  unfolding wrapped
  row_above n =
      let both = sym is ∙ not-false t n in
      ltb-true 0 h.cursor.row (and_left _ _ (and_right (eqb h.cursor.col 0) _ both))

  pub newline_next : (w : Went) → not t ≡ true → Advances (next_row (screen_with h l)) l m w
      → Advances (newline (screen_with h l)) l m w
  unfolding newline
  newline_next w n p = goes_else _ _ _ (sym is ∙ not-true t n) p

  pub newline_back : (w : Went) → not t ≡ false → Becomes l m (set (rows_of l) (h.cursor.row - 1) (flag_row 0 (row_of l (h.cursor.row - 1))))
      → w ≡ record { pen = pen; scrolls = 0 } → Advances (newline (screen_with h l)) l m w
  unfolding newline with_rows set_flag
  newline_back w n p here =
      let above = row_is l (h.cursor.row - 1) (omega arith) in
      rw here (goes_then _ _ _ (sym is ∙ not-false t n) (record { becomes = rw above p; head = refl; scrolls = refl }))

-- ---- wrap: m has the flag, and n is what next_row has left

pub wrap_end : (l m n : List ℕ) (pen : Pen) (w : Went) → let h = pen.head in
    Becomes l m (set (rows_of l) h.cursor.row (flag_row 1 (row_of l h.cursor.row)))
    → Advances (next_row (screen_with h m)) m n w → Advances (next_row (record { head = h; rows = set_flag (rows_of l) h.cursor.row 1 })) l n w
unfolding set_flag
wrap_end l m n pen w flag p =
    let here = row_is l pen.head.cursor.row (omega arith) in
    rw (here, ← flag.rows) (record { becomes = and_then flag p.becomes refl; head = p.head; scrolls = p.scrolls })

-- ---- put_print_char: m has the character

module _ (l m : List ℕ) (pen : Pen) (ch : ℕ)
    (put : let h = pen.head in Becomes l m (set (rows_of l) h.cursor.row (put_cell h.cursor.col ch h.attr (row_of l h.cursor.row)))) where
  abbrev was : Head
  was = pen.head

  written : write_cell (screen_with was l) ch ≡ screen_with was m
  unfolding write_cell with_rows
  written =
      let here = row_is l was.cursor.row (omega arith) in
      rw (here, put.rows)

  pub put_inside : (g : Pen) (w : Went) → was.cursor.col + 1 < was.width → g.head ≡ with_cursor was (at was.cursor.row (was.cursor.col + 1))
      → w ≡ record { pen = g; scrolls = 0 } → Advances (put_char (screen_with was l) ch) l m w
  unfolding put_char move_to
  put_inside g w lt goes here =
      rw here
      (goes_then _ _ _ (lt-ltb (was.cursor.col + 1) was.width lt)
      (rw written (record { becomes = record { size = put.size; front = put.front; rows = refl }; head = goes; scrolls = refl })))

  -- n is what wrap has left
  pub put_last : (n : List ℕ) (w : Went) → was.width ≤ was.cursor.col + 1
      → Advances (next_row (record { head = was; rows = set_flag (rows_of m) was.cursor.row 1 })) m n w → Advances (put_char (screen_with was l) ch) l n w
  unfolding put_char with_rows
  put_last n w le p =
      goes_else _ _ _ (le-ltb (was.cursor.col + 1) was.width le)
      (rw written (record { becomes = and_then put p.becomes refl; head = p.head; scrolls = p.scrolls }))

-- ---- effect_of: t is what is_printable has answered

module _ (cr : Bool) (b : ℕ) where
  pub thirteen : b ≡ 13 → Effects cr b Newline
  unfolding print_byte effected
  thirteen e = record { does = λ s. rw e }

  pub ten_alone : b ≡ 10 → cr ≡ false → Effects cr b Newline
  unfolding print_byte effected
  ten_alone e f = record { does = λ s. rw (e, f) }

  pub ten_after : b ≡ 10 → cr ≡ true → Effects cr b Nothing
  unfolding print_byte effected
  ten_after e f = record { does = λ s. rw (e, f) }

  module _ (t : Bool) (not13 : b ≢ 13) (not10 : b ≢ 10) (is : t ≡ printable b) where
    pub char : t ≡ true → Effects cr b Char
    unfolding print_byte effected
    char e = record { does = λ s. rw (ne_eqb b 13 not13, ne_eqb b 10 not10, ← is, e) }

    pub ignored : t ≡ false → Effects cr b Nothing
    unfolding print_byte effected
    ignored e = record { does = λ s. rw (ne_eqb b 13 not13, ne_eqb b 10 not10, ← is, e) }

-- ---- print_byte: e is what effect_of has answered

module _ (l m : List ℕ) (h : Head) (cr : Bool) (b : ℕ) (e : Effect) (w : Went) (effect : Effects cr b e) where
  abbrev before : Screen
  before = screen_with h l

  pub line_ended : e ≡ Newline → Advances (newline before) l m w → Advances (print_byte cr before b) l m w
  unfolding effected
  line_ended is p = rw (effect.does before, is) p

  pub char_put : e ≡ Char → Advances (put_char before b) l m w → Advances (print_byte cr before b) l m w
  unfolding effected
  char_put is p = rw (effect.does before, is) p

pub byte_ignored : (l : List ℕ) (pen : Pen) (cr : Bool) (b : ℕ) (e : Effect) (w : Went) → Effects cr b e → e ≡ Nothing → length l ≡ SIZE
    → w ≡ record { pen = pen; scrolls = 0 } → Advances (print_byte cr (screen_with pen.head l) b) l l w
unfolding effected
byte_ignored l pen cr b e w effect is len here = rw (effect.does (screen_with pen.head l), is) (goes_still l pen w len here)

-- ---- of the pen it moves the cursor alone

module _ (l m : List ℕ) (h : Head) (cr : Bool) (b : ℕ) (w : Went) (q : Advances (print_byte cr (screen_with h l) b) l m w) where
  pub moves_only : with_cursor h w.pen.head.cursor ≡ w.pen.head
  moves_only = ap (λ (x : Head). with_cursor h x.cursor) q.head ∙ byte_only cr (screen_with h l) b ∙ sym q.head

  pub moves_inside : (w.pen.head.cursor.row < editable h.keys) × (w.pen.head.cursor.col < h.width)
  moves_inside = subst (λ (x : Head). (w.pen.head.cursor.row < editable x.keys) × (w.pen.head.cursor.col < x.width)) (sym moves_only) (w.pen.row, w.pen.col)

-- ---- print_piece, and with it print_waiting: from the screen s, where start says that 13 stood before, the first i bytes are printed and have made n scrolls;
-- cr says that the last of them was 13

pub record Printing (start : Bool) (s : Screen) (bs l m : List ℕ) (i : ℕ) (cr : Bool) (h : Head) (n : ℕ) : Type 0 where
  pub to : i ≤ length bs
  pub size : length m ≡ SIZE
  pub front : take FLAGS m ≡ take FLAGS l
  pub done : screen_with h m ≡ (print start s (take i bs)).screen
  pub count : n ≡ (print start s (take i bs)).scrolls
  pub last : cr ≡ follows start (take i bs)

module _ (start : Bool) (s : Screen) (bs l : List ℕ) where
  pub piece_start : (h : Head) → length l ≡ SIZE → h ≡ s.head → rows_of l ≡ s.rows → Printing start s bs l l 0 start h 0
  unfolding print last_cr
  piece_start h size head rows =
      record { to = omega arith; size = size; front = refl; done = λ j. record { head = head j; rows = rows j }; count = refl; last = bit start }
    where
      bit : (t : Bool) → t ≡ eqb (if t then 1 else 0) 1
      bit true = refl
      bit false = refl

  module _ (m : List ℕ) (i n : ℕ) (cr : Bool) (h : Head) (p : Printing start s bs l m i cr h n) where
    -- ---- one byte more

    abbrev here : Screen
    here = screen_with h m

    pub run_turn : (m' : List ℕ) (w : Went) → i < length bs → Advances (print_byte cr here (get_or bs i 0)) m m' w
        → Printing start s bs l m' (i + 1) (eqb (get_or bs i 0) 13) w.pen.head (n + w.scrolls)
    run_turn m' w lt q =
        let b : ℕ = get_or bs i 0 in
        let is : screen_with w.pen.head m' ≡ (print_byte cr here b).screen = λ j. record { head = q.head j; rows = q.becomes.rows j } in
        let one : after (print start s (take i bs)) (print_byte cr here b) ≡ print start s (take (i + 1) bs) =
        (λ j. after (print start s (take i bs)) (print_byte (p.last j) (p.done j) b)) ∙ sym (print_next bs i lt start s) in
        record {
          to = omega arith;
          size = q.becomes.size;
          front = q.becomes.front ∙ p.front;
          done = is ∙ ap (λ (a : Advanced). a.screen) one;
          count = ap₂ (λ (x y : ℕ). x + y) p.count q.scrolls ∙ ap (λ (a : Advanced). a.scrolls) one;
          last = sym (last_next bs i lt start);
        }

    -- ---- more bytes, up to j: what w hands on

    module _ (j : ℕ) (m' : List ℕ) (w : Went) (further : i < j) (within : j ≤ length bs) (went : Advances (print cr here (take (j - i) (drop i bs))) m m' w) where
      pub piece_on : Printing start s bs l m' j (eqb (get_or bs (j - 1) 0) 13) w.pen.head (n + w.scrolls)
      piece_on =
          let piece : List ℕ = take (j - i) (drop i bs) in
          let is : screen_with w.pen.head m' ≡ (print cr here piece).screen = λ k. record { head = went.head k; rows = went.becomes.rows k } in
          let all : after (print start s (take i bs)) (print cr here piece) ≡ print start s (take j bs) =
          (λ k. after (print start s (take i bs)) (print (p.last k) (p.done k) piece)) ∙ sym (print_more bs i j (omega arith) start s) in
          let before : j - 1 + 1 ≡ j = omega arith in
          record {
            to = within;
            size = went.becomes.size;
            front = went.becomes.front ∙ p.front;
            done = is ∙ ap (λ (a : Advanced). a.screen) all;
            count = ap₂ (λ (x y : ℕ). x + y) p.count went.scrolls ∙ ap (λ (a : Advanced). a.scrolls) all;
            last = sym (ap (λ (k : ℕ). follows start (take k bs)) (sym before) ∙ last_next bs (j - 1) (omega arith) start);
          }

    -- ---- print_piece: w is what print_byte has handed back, and g the pen with its cursor

    module _ (m' : List ℕ) (w : Went) (lt : i < length bs) (q : Advances (print_byte cr here (get_or bs i 0)) m m' w) where
      pub turn_fits : Fits w64 (length bs) → Fits w64 (n + w.scrolls)
      turn_fits f =
          let few : length (take (i + 1) bs) ≡ i + 1 = length-take-le (i + 1) bs (omega arith) in
          record { fits = omega (arith, f.fits, few, (run_turn m' w lt q).count, bytes_most (take (i + 1) bs) start s) }

      pub piece_turn : (g : Head) → g ≡ with_cursor h w.pen.head.cursor → Printing start s bs l m' (i + 1) (eqb (get_or bs i 0) 13) g (n + w.scrolls)
      piece_turn g moved = subst (λ (x : Head). Printing start s bs l m' (i + 1) (eqb (get_or bs i 0) 13) x (n + w.scrolls)) (sym (moved ∙ moves_only m m' h cr (get_or bs i 0) w q)) (run_turn m' w lt q)
