-- What the proofs of the waiting print's functions cite: how many rows a byte scrolls, on each way out of the code; and where the print stops.
-- Assumes nothing.
use Prim.Native.Nat.{ℕ, ◌+◌, ◌-◌, ◌≤◌, ◌<◌, min}
use mathlib.Core.Path.{◌≡◌, refl, sym, ap, ◌∙◌}
use mathlib.Core.Bool.{Bool, true, false}
use mathlib.Core.List.{List}
use native.Mathlib.Omega.{arith}
use lib.Dec.{eqb, ltb, leb}
use lib.ListN.{length, get_or, take, drop, length-drop}
use lib.Seq.{length-take-le, drop-cons}
use mir.Val.{bool_byte}
use borrow.Author.Tests.{lt-ltb, le-ltb, lt-leb, le-leb, ltb-true, ltb-false}
use Rattle.std.specs.Prelude.{if◌then◌else◌}
use Rattle.std.proofs.lemmas.Bool.{cond-true as pick, cond-false as skip}
use Rattle.octets.proofs.Bools.{cases}
use Rattle.grid.specs.Screen.{Screen, with_rows, editable}
use Rattle.grid.specs.Record.{rows_of, screen_with}
use Rattle.grid.specs.declared.head.Head.{Head}
use Rattle.editor.specs.Print.{Advanced, next_row, newline, write_cell, put_char, print_byte, print}
use Rattle.editor.specs.Waiting.{scrolls_of, taken}
use Rattle.editor.specs.declared.print.Went.{Went}
use Rattle.editor.specs.declared.print.Effect.{Effect}
use Rattle.editor.specs.declared.print.Effect.TheVariants.{Newline, Char, Nothing}
use Rattle.editor.specs.Given.{Advances, Effects, NextScrolls, Reaches, Waits, effected}
use Rattle.editor.specs.Call.{rule, apply}
use Rattle.editor.proofs.PrintParts.{print_next}
use Rattle.editor.proofs.PrintLaws.{wraps, Printing, piece_on}
use Rattle.editor.proofs.Taken.{bytes_most, taken_is}

-- ---- a choice that the code has made

module _ {k : ℕ} (b : Bool) (x y : Advanced) where
  pub scrolls_then : b ≡ true → k ≡ x.scrolls → k ≡ (if b then x else y).scrolls
  scrolls_then e p = rw (pick b x y e) p

  pub scrolls_else : b ≡ false → k ≡ y.scrolls → k ≡ (if b then x else y).scrolls
  scrolls_else e p = rw (skip b x y e) p

-- ---- next_row_scrolls: e is what editable_rows has answered, and k the number that the code makes of its test

pub next_scrolls : (h : Head) (e k : ℕ) → e ≡ editable h.keys → k ≡ bool_byte (leb e (h.cursor.row + 1)) → NextScrolls h k
unfolding next_row
next_scrolls h e k is bit =
    let r : ℕ = h.cursor.row in
    let last : ℕ = editable h.keys in
    let scrolls : Advanced → Type 0 = λ a. bool_byte (leb e (r + 1)) ≡ a.scrolls in
    record {
      made = λ rows. bit
          ∙ cases scrolls (ltb (r + 1) last) _ _
          (λ t. ap bool_byte (lt-leb e (r + 1) (omega (arith, ltb-true (r + 1) last t))))
          (λ f. ap bool_byte (le-leb e (r + 1) (omega (arith, ltb-false (r + 1) last f))));
    }

-- ---- newline_scrolls: t is what wrapped has answered

module _ (l : List ℕ) (h : Head) (t : Bool) (is : t ≡ wraps l h) where
  pub newline_stays : t ≡ true → 0 ≡ (newline (screen_with h l)).scrolls
  unfolding newline
  newline_stays e = scrolls_then _ _ _ (sym is ∙ e) refl

  pub newline_goes : (k : ℕ) → NextScrolls h k → t ≡ false → k ≡ (newline (screen_with h l)).scrolls
  unfolding newline
  newline_goes k next e = scrolls_else _ _ _ (sym is ∙ e) (next.made (rows_of l))

-- ---- byte_scrolls: e is what effect_of has answered, and k the answer of what the code calls then

module _ (l : List ℕ) (h : Head) where
  abbrev this : Screen
  this = screen_with h l

  module _ (cr : Bool) (b : ℕ) (e : Effect) (effect : Effects cr b e) where
    pub line_scrolls : (k : ℕ) → e ≡ Newline → k ≡ (newline this).scrolls → k ≡ (print_byte cr this b).scrolls
    unfolding effected
    line_scrolls k is p = rw (effect.does this, is) p

    pub char_scrolls : (k : ℕ) → e ≡ Char → h.width ≤ h.cursor.col + 1 → NextScrolls h k → k ≡ (print_byte cr this b).scrolls
    unfolding effected put_char write_cell with_rows
    char_scrolls k is le next = rw (effect.does this, is) (scrolls_else _ _ _ (le-ltb (h.cursor.col + 1) h.width le) (next.made _))

    pub char_inside : e ≡ Char → h.cursor.col + 1 < h.width → 0 ≡ (print_byte cr this b).scrolls
    unfolding effected put_char
    char_inside is lt = rw (effect.does this, is) (scrolls_then _ _ _ (lt-ltb (h.cursor.col + 1) h.width lt) refl)

    pub none_scrolls : e ≡ Nothing → 0 ≡ (print_byte cr this b).scrolls
    unfolding effected
    none_scrolls is = rw (effect.does this, is)

-- ---- piece_end: k is what byte_scrolls has answered

module _ (cr : Bool) (s : Screen) (bs : List ℕ) (i left : ℕ) (lt : i < length bs) where
  pub reaches_far : (n : ℕ) → n ≡ min left (length bs - i) → 0 < left → Reaches cr s bs i left (i + n)
  reaches_far n is some =
      let count : length (take (i + n - i) (drop i bs)) ≡ n = length-take-le (i + n - i) (drop i bs) (simp length-drop (omega arith)) ∙ omega arith in
      record {
        from = omega arith;
        within = omega arith;
        few = omega (arith, bytes_most (take (i + n - i) (drop i bs)) cr s, count);
        stop = λ e. absurd (omega arith);
      }

  module _ (k : ℕ) (none : left ≤ 0) (is : k ≡ (print_byte cr s (get_or bs i 0)).scrolls) where
    pub reaches_none : 0 < k → Reaches cr s bs i left i
    unfolding print
    reaches_none some =
        let same : i - i ≡ 0 = omega arith in
        record { from = omega arith; within = omega arith; few = rw same (omega arith); stop = λ e. omega (arith, is) }

    pub reaches_one : k ≤ 0 → Reaches cr s bs i left (i + 1)
    unfolding print
    reaches_one zero =
        let one : i + 1 - i ≡ 1 = omega arith in
        record {
          from = omega arith;
          within = omega arith;
          few = rw (one, drop-cons bs i 0 lt) (omega (arith, is));
          stop = λ e. absurd (omega arith);
        }

-- ---- print_waiting: the first i bytes are printed, and have made n scrolls

module _ (s : Screen) (bs l m : List ℕ) (rows i n : ℕ) (cr : Bool) (h : Head) (p : Printing false s bs l m i cr h n) (most : n ≤ rows) where
  abbrev this_far : Screen
  this_far = screen_with h m

  waits : (i < length bs → rows < scrolls_of s (take (i + 1) bs)) → Waits bs rows s l m (record { head = h; taken = i; scrolls = n })
  unfolding apply rule
  waits stop =
      let front : take i bs ≡ taken s rows bs = taken_is s bs rows i p.to (omega (arith, p.count)) stop in
      let is = p.done ∙ ap (λ (cs : List ℕ). (print false s cs).screen) front in
      record {
        leaves = record {
          becomes = record { size = p.size; front = p.front; rows = ap (λ (x : Screen). x.rows) is };
          head = ap (λ (x : Screen). x.head) is;
        };
        front = front;
        to = p.to;
        scrolled = p.count ∙ ap (λ (cs : List ℕ). scrolls_of s cs) front;
        most = most;
      }

  pub waits_end : length bs ≤ i → Waits bs rows s l m (record { head = h; taken = i; scrolls = n })
  waits_end le = waits (λ lt. absurd (omega arith))

  module _ (to : ℕ) (lt : i < length bs) (reach : Reaches cr this_far bs i (rows - n) to) where
    pub waits_stop : to ≡ i → Waits bs rows s l m (record { head = h; taken = i; scrolls = n })
    waits_stop e =
        let sum = ap (λ (a : Advanced). a.scrolls) (print_next bs i lt false s) in
        let same : (print_byte cr this_far (get_or bs i 0)).scrolls ≡ _ = λ j. (print_byte (p.last j) (p.done j) (get_or bs i 0)).scrolls in
        waits (λ _. omega (arith, sum, same, p.count, reach.stop e))

    -- w is what print_piece has handed back of the bytes up to `to`
    module _ (m' : List ℕ) (w : Went) (went : Advances (print cr this_far (take (to - i) (drop i bs))) m m' w) where
      pub more_most : n + w.scrolls ≤ rows
      more_most = omega (arith, reach.few, went.scrolls)

      pub waiting_turn : (to ≡ i → ⊥) → Printing false s bs l m' to (eqb (get_or bs (to - 1) 0) 13) w.pen.head (n + w.scrolls)
      waiting_turn further = piece_on false s bs l m i n cr h p to m' w (omega (arith, reach.from)) reach.within went
