-- Document 02, (a): what a waiting print takes of bs, where it may scroll `rows` rows: the longest beginning that makes no more scrolls, and one byte more would make one more.
-- Assumes nothing.
use Prim.Native.Nat.{ℕ, zero, suc, ◌+◌, ◌≤◌, ◌<◌}
use mathlib.Core.Path.{◌≡◌, refl, sym, ap, ◌∙◌, subst}
use mathlib.Core.Bool.{Bool, true, false, ◌&&◌}
use mathlib.Core.List.{List, [], ◌∷◌}
use native.Mathlib.Omega.{arith}
use lib.Dec.{eqb, ltb, leb}
use lib.ListN.{length, get_or, take, drop, drop_of_length-le}
use lib.Seq.{length-take-le, drop-cons}
use borrow.Author.Tests.{leb-true, leb-false, ltb-true, ltb-false, eqb-true}
use Rattle.octets.proofs.Bools.{cases, either, and_false}
use Rattle.grid.specs.Screen.{Screen, editable, printable}
use Rattle.editor.specs.Print.{Advanced, next_row, newline, put_char, print_byte, print, wrapped}
use Rattle.editor.specs.Waiting.{scrolls_of, longest, taken}
use Rattle.editor.specs.Call.{last_cr}
use Rattle.editor.proofs.PrintParts.{follows, print_next, print_more}

-- ---- one byte scrolls one row at most

abbrev AtMostOne : Advanced → Type 0
AtMostOne a = a.scrolls ≤ 1

pub next_most : (s : Screen) → AtMostOne (next_row s)
unfolding next_row
next_most s = either AtMostOne (ltb (s.head.cursor.row + 1) (editable s.head.keys)) _ _ (omega arith) (omega arith)

newline_most : (s : Screen) → AtMostOne (newline s)
unfolding newline
newline_most s = either AtMostOne (wrapped s) _ _ (omega arith) (next_most s)

put_most : (s : Screen) (ch : ℕ) → AtMostOne (put_char s ch)
unfolding put_char
put_most s ch = either AtMostOne (ltb (s.head.cursor.col + 1) s.head.width) _ _ (omega arith) (next_most _)

pub byte_most : (cr : Bool) (s : Screen) (b : ℕ) → AtMostOne (print_byte cr s b)
unfolding print_byte
byte_most cr s b =
    either AtMostOne (eqb b 13) _ _ (newline_most s)
    (either AtMostOne (eqb b 10) _ _ (either AtMostOne cr _ _ (omega arith) (newline_most s)) (either AtMostOne (printable b) _ _ (put_most s b) (omega arith)))

-- and a 10 that belongs to its 13 none
ten_none : (s : Screen) → (print_byte true s 10).scrolls ≡ 0
unfolding print_byte
ten_none s = refl

-- so bytes scroll as many rows as they are, at most
pub bytes_most : (bs : List ℕ) (cr : Bool) (s : Screen) → (print cr s bs).scrolls ≤ length bs
unfolding print
bytes_most [] cr s = omega arith
bytes_most (b ∷ bs) cr s =
    let p : Advanced = print_byte cr s b in
    omega (arith, byte_most cr s b, bytes_most bs (eqb b 13) p.screen)

module _ (s : Screen) (bs : List ℕ) where
  -- ---- a longer beginning makes no fewer scrolls

  abbrev made : ℕ → ℕ
  made i = scrolls_of s (take i bs)

  none_made : made 0 ≡ 0
  unfolding print
  none_made = refl

  pub more : (i j : ℕ) → i ≤ j → made i ≤ made j
  more i j h =
      let sum = ap (λ (a : Advanced). a.scrolls) (print_more bs i j h false s) in
      omega (arith, sum)

  -- by one byte one at most
  pub next_made : (i : ℕ) → i < length bs → made (i + 1) ≤ made i + 1
  next_made i lt =
      let sum = ap (λ (a : Advanced). a.scrolls) (print_next bs i lt false s) in
      omega (arith, sum, byte_most (follows false (take i bs)) (print false s (take i bs)).screen (get_or bs i 0))

  -- ---- the longest beginning that makes at most `rows` scrolls

  module _ (rows : ℕ) where
    longest_length : (n : ℕ) → n ≤ length bs → length (longest s rows bs n) ≤ n
    unfolding longest
    longest_length zero h = omega arith
    longest_length (suc n) h =
        either (λ (cs : List ℕ). length cs ≤ suc n) (leb (scrolls_of s (take (suc n) bs)) rows) _ _ (omega (arith, length-take-le (suc n) bs h)) (omega (arith, longest_length n (omega arith)))

    longest_front : (n : ℕ) → n ≤ length bs → take (length (longest s rows bs n)) bs ≡ longest s rows bs n
    unfolding longest
    longest_front zero h = refl
    longest_front (suc n) h =
        either (λ (cs : List ℕ). take (length cs) bs ≡ cs) (leb (scrolls_of s (take (suc n) bs)) rows) _ _ (ap (λ (i : ℕ). take i bs) (length-take-le (suc n) bs h)) (longest_front n (omega arith))

    longest_most : (n : ℕ) → scrolls_of s (longest s rows bs n) ≤ rows
    unfolding longest
    longest_most zero = omega (arith, none_made)
    longest_most (suc n) =
        cases (λ (cs : List ℕ). scrolls_of s cs ≤ rows) _ (take (suc n) bs) (longest s rows bs n) (λ e. leb-true _ _ e) (λ e. longest_most n)

    longest_stop : (n : ℕ) → n ≤ length bs → length (longest s rows bs n) < n → rows < made (length (longest s rows bs n) + 1)
    unfolding longest
    longest_stop zero h = λ lt. absurd (omega arith)
    longest_stop (suc n) h =
        cases (λ (cs : List ℕ). length cs < suc n → rows < made (length cs + 1)) (leb (scrolls_of s (take (suc n) bs)) rows) _ _ (λ e lt. absurd (omega (arith, length-take-le (suc n) bs h)))
        (λ e lt. past (leb-false _ _ e) (longest_stop n (omega arith)) (ltb (length (longest s rows bs n)) n) refl)
      where
        past : let i = length (longest s rows bs n) in rows < made (suc n) → (i < n → rows < made (i + 1)) → (b : Bool) → ltb i n ≡ b → rows < made (i + 1)
        past over sooner true q = sooner (ltb-true _ _ q)
        past over sooner false q =
            let here : length (longest s rows bs n) + 1 ≡ suc n = omega (arith, longest_length n (omega arith), ltb-false (length (longest s rows bs n)) n q) in
            subst (λ (i : ℕ). rows < made i) (sym here) over

    -- ---- so the bytes taken

    abbrev count : ℕ
    count = length (taken s rows bs)

    pub taken_to : count ≤ length bs
    unfolding taken
    taken_to = longest_length (length bs) (omega arith)

    pub taken_front : take count bs ≡ taken s rows bs
    unfolding taken
    taken_front = longest_front (length bs) (omega arith)

    pub taken_most : scrolls_of s (taken s rows bs) ≤ rows
    unfolding taken
    taken_most = longest_most (length bs)

    most_made : made count ≤ rows
    most_made = subst (λ (cs : List ℕ). scrolls_of s cs ≤ rows) (sym taken_front) taken_most

    -- all are taken, or one more would make one scroll more than `rows`
    pub taken_stop : count < length bs → made (count + 1) ≡ rows + 1
    unfolding taken
    taken_stop lt = omega (arith, longest_stop (length bs) (omega arith) lt, next_made count lt, most_made)

    -- the one beginning of which both is so
    pub taken_is : (i : ℕ) → i ≤ length bs → made i ≤ rows → (i < length bs → rows < made (i + 1)) → take i bs ≡ taken s rows bs
    taken_is i h most stop = ap (λ (j : ℕ). take j bs) (below (ltb i count) refl (ltb count i) refl) ∙ taken_front
      where
        below : (a : Bool) → ltb i count ≡ a → (b : Bool) → ltb count i ≡ b → i ≡ count
        below true p b q =
            let lt = ltb-true i count p in
            absurd (omega (arith, stop (omega (arith, taken_to)), more (i + 1) count (omega arith), most_made))
        below false p true q =
            let lt = ltb-true count i q in
            absurd (omega (arith, taken_stop (omega arith), more (count + 1) i (omega arith)))
        below false p false q = omega (arith, ltb-false i count p, ltb-false count i q)

    -- ---- a host's loop ends

    pub taken_some : 1 ≤ rows → 1 ≤ length bs → 1 ≤ count
    taken_some r some = go count refl
      where
        go : (n : ℕ) → n ≡ count → 1 ≤ n
        go zero e =
            let none : made count ≡ made 0 = ap made (sym e) in
            absurd (omega (arith, taken_stop (omega arith), next_made count (omega arith), none, none_made))
        go (suc n) e = omega arith

    -- ---- no 13 is parted from its 10

    pub taken_whole : eqb (last_cr 0 (taken s rows bs)) 1 && eqb (get_or (drop count bs) 0 0) 10 ≡ false
    taken_whole = all (ltb count (length bs)) refl
      where
        next : count < length bs → get_or (drop count bs) 0 0 ≡ get_or bs count 0
        next lt = ap (λ (cs : List ℕ). get_or cs 0 0) (drop-cons bs count 0 lt)

        cr : Bool
        cr = follows false (take count bs)

        -- it would make no scroll more, and be taken
        ten : count < length bs → cr ≡ true → get_or bs count 0 ≡ 10 → ⊥
        ten lt c b =
            let sum = ap (λ (a : Advanced). a.scrolls) (print_next bs count lt false s) in
            let none = (λ i. (print_byte (c i) (print false s (take count bs)).screen (b i)).scrolls) ∙ ten_none (print false s (take count bs)).screen in
            omega (arith, sum, none, taken_stop lt, most_made)

        parted : (c d : Bool) → (c ≡ true → d ≡ true → ⊥) → c && d ≡ false
        parted true true n = absurd (n refl refl)
        parted true false n = refl
        parted false d n = refl

        all : (a : Bool) → ltb count (length bs) ≡ a → eqb (last_cr 0 (taken s rows bs)) 1 && eqb (get_or (drop count bs) 0 0) 10 ≡ false
        all true q =
            let lt = ltb-true count (length bs) q in
            parted (eqb (last_cr 0 (taken s rows bs)) 1) (eqb (get_or (drop count bs) 0 0) 10) (λ c d. ten lt (ap (λ (cs : List ℕ). eqb (last_cr 0 cs) 1) taken_front ∙ c) (sym (next lt) ∙ eqb-true (get_or (drop count bs) 0 0) 10 d))
        all false q =
            let none : drop count bs ≡ [] = drop_of_length-le bs {i = count} (ltb-false count (length bs) q) in
            and_false (eqb (last_cr 0 (taken s rows bs)) 1) (eqb (get_or (drop count bs) 0 0) 10) (ap (λ (cs : List ℕ). eqb (get_or cs 0 0) 10) none)
