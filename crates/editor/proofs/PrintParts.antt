-- Prints in parts: printing does not look at the bit of document 02, (l), and two prints are one unless they part 13 and its 10.
-- Assumes nothing.
use Prim.Native.Nat.{ℕ, ◌+◌, ◌-◌, ◌≤◌, ◌<◌}
use mathlib.Core.Path.{◌≡◌, refl, sym, ap, ◌∙◌}
use mathlib.Core.Bool.{Bool, true, false, ◌&&◌}
use mathlib.Core.List.{List, [], ◌∷◌, ◌++◌}
use lib.Dec.{eqb, ltb}
use lib.ListN.{length, get_or, take, drop}
use lib.Seq.{take-suc, take-add}
use native.Mathlib.Numerals.{add-one}
use native.Mathlib.Omega.{arith}
use Rattle.std.specs.Prelude.{if◌then◌else◌}
use Rattle.std.proofs.lemmas.Bool.{cond-false as skip}
use Rattle.octets.proofs.Bools.{either}
use Rattle.grid.specs.Screen.{Screen, with_cursor, with_rows, with_bit, move_to, set_flag, editable, printable}
use Rattle.values.specs.Cursor.{at}
use Rattle.grid.specs.declared.head.Head.{Head}
use Rattle.line.specs.Line.{row_text}
use Rattle.editor.specs.Print.{Advanced, still, scroll, next_row, row_is_blank, wrapped, newline, write_cell, put_char, print_byte, print}
use Rattle.editor.specs.Call.{rule, apply, last_cr, cr_left, cr_after, after_call}
use Rattle.editor.specs.Call.Call.{PrintBytes}

-- the scrolls of p, and then those of q
abbrev pub after : Advanced → Advanced → Advanced
after p q = record { screen = q.screen; scrolls = p.scrolls + q.scrolls }

-- ---- a screen with the bit v: printing keeps it, and does what it does without it

module _ (v : ℕ) where
  abbrev bit_on : Advanced → Advanced
  bit_on a = record { screen = with_bit a.screen v; scrolls = a.scrolls }

  over : (b : Bool) (x y : Advanced) → bit_on (if b then x else y) ≡ (if b then bit_on x else bit_on y)
  over true x y = refl
  over false x y = refl

  next_bit : (s : Screen) → next_row (with_bit s v) ≡ bit_on (next_row s)
  unfolding next_row scroll with_rows move_to
  next_bit s = sym (over (ltb (s.head.cursor.row + 1) (editable s.head.keys)) _ _)

  newline_bit : (s : Screen) → newline (with_bit s v) ≡ bit_on (newline s)
  unfolding newline wrapped row_is_blank row_text with_rows
  newline_bit s =
      let back : Advanced = still (with_rows s (set_flag s.rows (s.head.cursor.row - 1) 0)) in
      ap (λ (x : Advanced). if wrapped s then bit_on back else x) (next_bit s) ∙ sym (over (wrapped s) back (next_row s))

  put_bit : (s : Screen) (ch : ℕ) → put_char (with_bit s v) ch ≡ bit_on (put_char s ch)
  unfolding put_char write_cell with_rows move_to
  put_bit s ch =
      let t : Screen = write_cell s ch in
      let full : Screen = with_rows t (set_flag t.rows s.head.cursor.row 1) in
      let inside : Bool = ltb (s.head.cursor.col + 1) s.head.width in
      let on : Advanced = still (move_to t (at s.head.cursor.row (s.head.cursor.col + 1))) in
      ap (λ (x : Advanced). if inside then bit_on on else x) (next_bit full) ∙ sym (over inside on (next_row full))

  byte_bit : (cr : Bool) (s : Screen) (b : ℕ) → print_byte cr (with_bit s v) b ≡ bit_on (print_byte cr s b)
  unfolding print_byte
  byte_bit cr s b =
      let line = newline_bit s in
      let put = put_bit s b in
      (λ i. if eqb b 13 then line i else if eqb b 10 then (if cr then bit_on (still s) else line i) else if printable b then put i else bit_on (still s))
      ∙ (λ i. if eqb b 13 then bit_on (newline s) else if eqb b 10 then sym (over cr (still s) (newline s)) i else sym (over (printable b) (put_char s b) (still s)) i)
      ∙ (λ i. if eqb b 13 then bit_on (newline s) else sym (over (eqb b 10) (if cr then still s else newline s) (if printable b then put_char s b else still s)) i)
      ∙ sym (over (eqb b 13) (newline s) _)

  print_bit : (bs : List ℕ) (cr : Bool) (s : Screen) → print cr (with_bit s v) bs ≡ bit_on (print cr s bs)
  unfolding print
  print_bit [] cr s = refl
  print_bit (b ∷ bs) cr s =
      ap (λ (p : Advanced). after p (print (eqb b 13) p.screen bs)) (byte_bit cr s b)
      ∙ ap (after (print_byte cr s b)) (print_bit bs (eqb b 13) (print_byte cr s b).screen)

-- ---- of a head printing moves the cursor alone

abbrev MovesOnly : Head → Advanced → Type 0
MovesOnly h a = with_cursor h a.screen.head.cursor ≡ a.screen.head

next_only : (s : Screen) → MovesOnly s.head (next_row s)
unfolding next_row scroll with_rows move_to
next_only s = either (MovesOnly s.head) _ _ _ refl refl

newline_only : (s : Screen) → MovesOnly s.head (newline s)
unfolding newline with_rows
newline_only s = either (MovesOnly s.head) _ _ _ refl (next_only s)

put_only : (s : Screen) (ch : ℕ) → MovesOnly s.head (put_char s ch)
unfolding put_char write_cell with_rows move_to
put_only s ch = either (MovesOnly s.head) _ _ _ refl (next_only _)

pub byte_only : (cr : Bool) (s : Screen) (b : ℕ) → MovesOnly s.head (print_byte cr s b)
unfolding print_byte
byte_only cr s b =
    let only : Advanced → Type 0 = MovesOnly s.head in
    either only (eqb b 13) (newline s) _ (newline_only s)
    (either only (eqb b 10) _ _ (either only cr (still s) (newline s) refl (newline_only s)) (either only (printable b) (put_char s b) (still s) (put_only s b) refl))

-- ---- one print after another

-- the next byte follows 13 if the bit would be set
pub print_append : (as' bs : List ℕ) (cr : Bool) (s : Screen)
    → print cr s (as' ++ bs) ≡ after (print cr s as') (print (eqb (last_cr (if cr then 1 else 0) as') 1) (print cr s as').screen bs)
unfolding print last_cr
print_append [] bs true s = ap (λ (n : ℕ). record { screen = (print true s bs).screen; scrolls = n }) (omega arith)
print_append [] bs false s = ap (λ (n : ℕ). record { screen = (print false s bs).screen; scrolls = n }) (omega arith)
print_append (a ∷ as') bs cr s =
    let p : Advanced = print_byte cr s a in
    let q : Advanced = print (eqb a 13) p.screen as' in
    let r : Advanced = print (eqb (last_cr (if cr then 1 else 0) (a ∷ as')) 1) q.screen bs in
    ap (after p) (print_append as' bs (eqb a 13) p.screen) ∙ ap (λ (n : ℕ). record { screen = r.screen; scrolls = n }) (omega arith)

byte_alone : (cr : Bool) (s : Screen) (b : ℕ) → cr && eqb b 10 ≡ false → print_byte cr s b ≡ print_byte false s b
unfolding print_byte
byte_alone true s b e =
    ap (λ (x : Advanced). if eqb b 13 then newline s else x) (skip _ _ _ e ∙ sym (skip (eqb b 10) (if false then still s else newline s) _ e))
byte_alone false s b e = refl

print_parts : (as' bs : List ℕ) (s : Screen) → eqb (last_cr 0 as') 1 && eqb (get_or bs 0 0) 10 ≡ false
    → print false s (as' ++ bs) ≡ after (print false s as') (print false (print false s as').screen bs)
print_parts as' bs s e = print_append as' bs false s ∙ ap (after (print false s as')) (start bs e)
  where
    start : (cs : List ℕ) → eqb (last_cr 0 as') 1 && eqb (get_or cs 0 0) 10 ≡ false
        → print (eqb (last_cr 0 as') 1) (print false s as').screen cs ≡ print false (print false s as').screen cs
    start [] h = unfold print in refl
    start (c ∷ cs) h =
        unfold print in ap (λ (p : Advanced). after p (print (eqb c 13) p.screen cs)) (byte_alone (eqb (last_cr 0 as') 1) (print false s as').screen c h)

-- ---- the bit after one print and another

last_append : (as' bs : List ℕ) (cr : ℕ) → last_cr cr (as' ++ bs) ≡ last_cr (last_cr cr as') bs
unfolding last_cr
last_append [] bs cr = refl
last_append (a ∷ as') bs cr = last_append as' bs (if eqb a 13 then 1 else 0)

-- ---- so one print after another leaves the screen, with the bit, that one print leaves

pub two_prints : (as' bs : List ℕ) (s : Screen) → eqb (last_cr 0 as') 1 && eqb (get_or bs 0 0) 10 ≡ false
    → after_call (PrintBytes bs) (after_call (PrintBytes as') s) ≡ after_call (PrintBytes (as' ++ bs)) s
unfolding after_call cr_after cr_left apply rule
two_prints as' bs s e =
    let first : ℕ = last_cr s.head.cr as' in
    let both =
    ap (λ (a : Advanced). a.screen) (print_bit first bs false (print false s as').screen)
    ∙ ap (λ (a : Advanced). with_bit a.screen first) (sym (print_parts as' bs s e)) in
    λ i. with_bit (both i) (sym (last_append as' bs s.head.cr) i)

-- ---- after the first i of bs, of which cr says that 13 stood before them: the next byte follows 13, and more is printed

abbrev pub follows : Bool → List ℕ → Bool
follows cr cs = eqb (last_cr (if cr then 1 else 0) cs) 1

module _ (bs : List ℕ) (i : ℕ) (lt : i < length bs) where
  snoc : take (i + 1) bs ≡ take i bs ++ (get_or bs i 0 ∷ [])
  snoc = ap (λ (j : ℕ). take j bs) (add-one i) ∙ take-suc bs i 0 lt

  pub last_next : (cr : Bool) → follows cr (take (i + 1) bs) ≡ eqb (get_or bs i 0) 13
  unfolding last_cr
  last_next cr =
      ap (follows cr) snoc ∙ ap (λ (n : ℕ). eqb n 1) (last_append (take i bs) (get_or bs i 0 ∷ []) (if cr then 1 else 0)) ∙ bit (eqb (get_or bs i 0) 13)
    where
      bit : (t : Bool) → eqb (if t then 1 else 0) 1 ≡ t
      bit true = refl
      bit false = refl

  pub print_next : (cr : Bool) (s : Screen) → let p = print cr s (take i bs) in
      print cr s (take (i + 1) bs) ≡ after p (print_byte (follows cr (take i bs)) p.screen (get_or bs i 0))
  unfolding print
  print_next cr s =
      let p : Advanced = print cr s (take i bs) in
      let q : Advanced = print_byte (follows cr (take i bs)) p.screen (get_or bs i 0) in
      ap (print cr s) snoc ∙ print_append (take i bs) (get_or bs i 0 ∷ []) cr s
      ∙ ap (λ (n : ℕ). record { screen = q.screen; scrolls = n }) (omega arith)

pub print_more : (bs : List ℕ) (i j : ℕ) → i ≤ j → (cr : Bool) (s : Screen) → let p = print cr s (take i bs) in
    print cr s (take j bs) ≡ after p (print (follows cr (take i bs)) p.screen (take (j - i) (drop i bs)))
print_more bs i j h cr s =
    let sum : i + (j - i) ≡ j = omega arith in
    let parts : take j bs ≡ take i bs ++ take (j - i) (drop i bs) = ap (λ (k : ℕ). take k bs) (sym sum) ∙ take-add i (j - i) bs in
    ap (print cr s) parts ∙ print_append (take i bs) (take (j - i) (drop i bs)) cr s
