-- The snapshot: the search for the last row that shows a character, the rows that are written, and that they are the rule's text.
-- Assumes nothing.
use Prim.Native.Nat.{ℕ, zero, suc, ◌+◌, ◌-◌, ◌*◌, ◌≤◌, ◌<◌}
use mathlib.Core.Path.{◌≡◌, refl, sym, ap, ap₂, ◌∙◌}
use mathlib.Core.Bool.{Bool, true, false, not, true≢false}
use mathlib.Core.List.{List, [], ◌∷◌, ◌++◌, append_assoc, append-nil}
use native.Mathlib.Numerals.{add-one}
use native.Mathlib.Omega.{arith}
use lib.Dec.{ltb}
use lib.ListN.{length, take, drop, set, length-append, length-take, length-drop, length-set, drop_of_length-le}
use lib.Seq.{take-suc, take_all, take-take}
use borrow.Author.Tests.{lt-ltb}
use borrow.Rule.Slice.PartMut.{put_mid}
use Rattle.std.specs.Prelude.{Option, None, Some, IfSome, MatchOption}
use Rattle.grid.specs.Screen.{Row, Screen, row_at, no_row, editable, is_empty, trim_by}
use Rattle.octets.specs.Part.{write}
use Rattle.octets.specs.Answer.{wrote, Writes}
use Rattle.grid.specs.Record.{row_of, screen_with}
use Rattle.grid.specs.declared.head.Head.{Head}
use Rattle.grid.specs.Facts.{ScreenFacts, Known}
use Rattle.grid.proofs.ScreenLaws.{head_seen, row_seen, facts_seen}
use Rattle.grid.proofs.Trim.{trim_front}
use Rattle.std.proofs.lemmas.Bool.{cond-true as pick, cond-false as skip}
use Rattle.octets.proofs.Bools.{cases}
use Rattle.octets.proofs.PartLaws.{length_write, write_append, write_more, write_none, write_front}
use Rattle.editor.specs.Text.{is_white, row_texts, join_lines, snapshot}
use Rattle.moves.specs.Shown.{shown, filled_rows, lines, Shows, Filled, Puts}
use Rattle.moves.proofs.WordsLaws.{Index, index}

empty_append : (xs ys : List ℕ) → is_empty ys ≡ false → is_empty (xs ++ ys) ≡ false
unfolding is_empty
empty_append [] ys e = e
empty_append (x ∷ xs) ys e = refl

-- ---- `shown_length`

pub shown_is : (x : Row) (cs : List ℕ) (w n : ℕ) → cs ≡ x.chars → n ≡ length (trim_by is_white (take w cs)) → n ≤ length (take w cs) → Shows w x n
unfolding shown
shown_is x cs w n ic is most = record { is = rw ic at is; most = omega (arith, length-take w cs) }

-- ---- `shows`, `last_row`

not_empty : (xs : List ℕ) → ltb 0 (length xs) ≡ not (is_empty xs)
unfolding is_empty
not_empty [] = refl
not_empty (x ∷ xs) = lt-ltb 0 (suc (length xs)) (omega arith)

-- does the row r show a character?
abbrev shows : ℕ → List Row → ℕ → Bool
shows w rows r = not (is_empty (shown w (row_at rows r)))

pub row_shows : (l : List ℕ) (h : Head) (s : Screen) (x : Row) (r n : ℕ) → screen_with h l ≡ s → r < 25 → x ≡ row_of l r → Shows h.width x n
    → ltb 0 n ≡ shows s.head.width s.rows r
row_shows l h s x r n is below ix sh =
    ap (ltb 0) sh.is ∙ not_empty (shown h.width x)
    ∙ ap₂ (λ (g : Head) (y : Row). not (is_empty (shown g.width y))) (head_seen l h s is) (row_seen l h s is x r below ix)

module _ (w : ℕ) (rows : List Row) where
  filled_at : (e n : ℕ) → n ≤ e → (0 < n → shows w rows (n - 1) ≡ true) → ((k : ℕ) → Index k → n ≤ k → k < e → shows w rows k ≡ false)
      → n ≡ filled_rows w rows e
  unfolding filled_rows
  filled_at zero n h stop none = omega arith
  filled_at (suc e) n h stop none =
      let same : suc e - 1 ≡ e = omega arith in
      let on : n ≤ e → n ≡ filled_rows w rows e = λ b. filled_at e n b stop (λ k x y c. none k x y (omega arith)) in
      let no : n ≤ e → shows w rows e ≡ false = λ b. none e (index e) b (omega arith) in
      let yes : n ≡ suc e → shows w rows e ≡ true = λ q. rw (q, same) at (stop (omega (arith, q))) in
      grind (arith, on, no, yes)

  pub last_found : (e : ℕ) (r : Option ℕ) → IfSome r (λ i. i < e) → IfSome r (λ i. shows w rows i ≡ true)
      → ((k : ℕ) → Index k → IfSome r (λ i. i < k) → k < e → shows w rows k ≡ false)
      → MatchOption r (Filled w rows e 0) (λ i. Filled w rows e (i + 1))
  last_found e None b stop none =
      record { is = filled_at e 0 (omega arith) (λ z. absurd (omega (arith, z))) (λ k x y z. none k x tt z); most = omega arith }
  last_found e (Some i) b stop none =
      let same : i + 1 - 1 ≡ i = omega arith in
      record { is = filled_at e (i + 1) (omega arith) (λ z. rw same stop) (λ k x y z. none k x (omega arith) z); most = omega arith }

-- ---- `put_row`, `put_line`, `put_lines`

pub row_put : (x : Row) (cs out m : List ℕ) (w n : ℕ) → w ≤ 80 → Shows w x n → cs ≡ x.chars → m ≡ write out 0 (take n cs) → Puts (shown w x) 80 out m n
unfolding shown
row_put x cs out m w n wide s ic e =
    let k : take n cs ≡ trim_by is_white (take w x.chars) =
    ap (take n) ic ∙ sym (take-take n w x.chars s.most) ∙ ap (λ (i : ℕ). take i (take w x.chars)) s.is ∙ trim_front is_white (take w x.chars) in
    record { count = s.is; most = omega arith; size = ap length e ∙ length_write out 0 _; bytes = e ∙ ap (write out 0) k }

pub line_put : (text out m : List ℕ) (n : ℕ) → Puts text 80 out m n → Puts (text ++ (10 ∷ [])) 81 out (set m n 10) (n + 1)
line_put text out m n p =
    let k : n ≡ 0 + length text = omega (arith, p.count) in
    record {
      count = simp length-append (omega arith);
      most = omega arith;
      size = length-set m n 10 ∙ p.size;
      bytes = ap₂ (λ (x : List ℕ) (i : ℕ). set x i 10) p.bytes k ∙ write_more out 0 text 10;
    }

lines_snoc : (w : ℕ) (xs : List Row) (x : Row) → lines w (xs ++ (x ∷ [])) ≡ lines w xs ++ (shown w x ++ (10 ∷ []))
unfolding lines
lines_snoc w [] x = refl
lines_snoc w (y ∷ xs) x =
    ap (λ (z : List ℕ). shown w y ++ (10 ∷ z)) (lines_snoc w xs x) ∙ sym (append_assoc (shown w y) (10 ∷ lines w xs) (shown w x ++ (10 ∷ [])))

take_row : (rows : List Row) (n : ℕ) → n < length rows → take (suc n) rows ≡ take n rows ++ (row_at rows n ∷ [])
unfolding row_at
take_row rows n h = take-suc rows n no_row h

-- what a write to the front of the rest of a slice leaves
write_rest : (l : List ℕ) (a : ℕ) (t : List ℕ) → take a l ++ write (drop a l) 0 t ≡ write l a t
unfolding write
write_rest [] zero t = refl
write_rest [] (suc a) t = refl
write_rest (x ∷ l) zero t = refl
write_rest (x ∷ l) (suc a) t = ap (λ (r : List ℕ). x ∷ r) (write_rest l a t)

-- one text behind another
puts_more : (s t out m m' : List ℕ) (j k at n : ℕ) → j ≤ length out → Puts s j out m at → Puts t k (take (length m - at) (drop at m)) m' n
    → Puts (s ++ t) (j + k) out (put_mid at (length m - at) m m') (at + n)
puts_more s t out m m' j k at n room p q =
    let part : take (length m - at) (drop at m) ≡ drop at m = take_all (length m - at) (drop at m) (rw length-drop (omega arith)) in
    let rest : drop (length m - at) (drop at m) ≡ [] = drop_of_length-le (drop at m) {i = length m - at} (rw length-drop (omega arith)) in
    let from : at ≡ 0 + length s = omega (arith, p.count) in
    let whole : put_mid at (length m - at) m m' ≡ write out 0 (s ++ t) =
    ap₂ (λ (x y : List ℕ). take at m ++ (x ++ y)) (q.bytes ∙ ap (λ (x : List ℕ). write x 0 t) part) rest
    ∙ ap (λ (x : List ℕ). take at m ++ x) (append-nil _) ∙ write_rest m at t
    ∙ ap₂ (λ (x : List ℕ) (i : ℕ). write x i t) p.bytes from ∙ write_append out 0 s t in
    record { count = omega (arith, length-append s t, p.count, q.count); most = omega arith; size = ap length whole ∙ length_write out 0 (s ++ t); bytes = whole }

pub lines_start : (w : ℕ) (rows : List Row) (out : List ℕ) → Puts (lines w (take 0 rows)) (81 * 0) out out 0
unfolding lines
lines_start w rows out = record { count = refl; most = omega arith; size = refl; bytes = sym (write_none out 0) }

-- the screen s is read from the record l with the head h
module _ (l : List ℕ) (h : Head) (s : Screen) (is : screen_with h l ≡ s) (known : Known l h) (x : Row) (r : ℕ) (ix : x ≡ row_of l r) where
  shown_seen : r < 25 → shown h.width x ≡ shown s.head.width (row_at s.rows r)
  shown_seen below = ap₂ (λ (g : Head) (y : Row). shown g.width y) (head_seen l h s is) (row_seen l h s is x r below ix)

  pub lines_turn : (out m m' : List ℕ) (at k : ℕ) → r < 24 → 2024 ≤ length out
      → Puts (lines s.head.width (take r s.rows)) (81 * r) out m at → Puts (shown h.width x ++ (10 ∷ [])) 81 (take (length m - at) (drop at m)) m' k
      → Puts (lines s.head.width (take (r + 1) s.rows)) (81 * (r + 1)) out (put_mid at (length m - at) m m') (at + k)
  lines_turn out m m' at k below room p q =
      let w : ℕ = s.head.width in
      let f : ScreenFacts s = facts_seen l h s is known in
      let e : lines w (take (r + 1) s.rows) ≡ lines w (take r s.rows) ++ (shown h.width x ++ (10 ∷ [])) =
      ap (λ (i : ℕ). lines w (take i s.rows)) (add-one r) ∙ ap (lines w) (take_row s.rows r (omega (arith, f.rows.count)))
      ∙ lines_snoc w (take r s.rows) (row_at s.rows r)
      ∙ ap (λ (t : List ℕ). lines w (take r s.rows) ++ (t ++ (10 ∷ []))) (sym (shown_seen (omega arith))) in
      let n : 81 * (r + 1) ≡ 81 * r + 81 = omega arith in
      rw (e, n) (puts_more (lines w (take r s.rows)) (shown h.width x ++ (10 ∷ [])) out m m' (81 * r) 81 at k (omega arith) p q)

-- ---- the rule's text is what is written

texts_snoc : (w : ℕ) (xs : List Row) (x : Row) → row_texts w (xs ++ (x ∷ [])) ≡ row_texts w xs ++ (shown w x ∷ [])
unfolding row_texts shown
texts_snoc w [] x = refl
texts_snoc w (y ∷ xs) x = ap (λ (z : List (List ℕ)). trim_by is_white (take w y.chars) ∷ z) (texts_snoc w xs x)

empty_is : (xs : List ℕ) → is_empty xs ≡ true → xs ≡ []
unfolding is_empty
empty_is [] e = refl
empty_is (x ∷ xs) e = absurd (true≢false (sym e))

-- an empty row at the end is dropped
join_empty : (ts : List (List ℕ)) → join_lines (ts ++ ([] ∷ [])) ≡ join_lines ts
unfolding join_lines is_empty
join_empty [] = refl
join_empty (t ∷ ts) = rw (join_empty ts)

-- a row that shows something has all rows before it, with byte 10 after each
join_filled : (w : ℕ) (xs : List Row) (t : List ℕ) → is_empty t ≡ false → join_lines (row_texts w xs ++ (t ∷ [])) ≡ lines w xs ++ t
unfolding join_lines row_texts lines
join_filled w [] t e = pick (is_empty []) t _ (unfold is_empty in refl)
join_filled w (x ∷ xs) t e =
    let ih = join_filled w xs t e in
    let z : is_empty (join_lines (row_texts w xs ++ (t ∷ []))) ≡ false = ap is_empty ih ∙ empty_append (lines w xs) t e in
    skip _ _ _ z ∙ ap (λ (y : List ℕ). trim_by is_white (take w x.chars) ++ (10 ∷ y)) ih
    ∙ (unfold shown in sym (append_assoc (shown w x) (10 ∷ lines w xs) t))

-- what is written of n rows, of which the last shows something
abbrev printed : ℕ → List Row → ℕ → List ℕ
printed w rows zero = []
printed w rows (suc n) = lines w (take n rows) ++ shown w (row_at rows n)

joined : (w : ℕ) (rows : List Row) (n : ℕ) → n ≤ length rows → join_lines (row_texts w (take n rows)) ≡ printed w rows (filled_rows w rows n)
unfolding filled_rows
joined w rows zero h = unfold join_lines row_texts in refl
joined w rows (suc n) h =
    let t : List ℕ = shown w (row_at rows n) in
    let e : join_lines (row_texts w (take (suc n) rows)) ≡ join_lines (row_texts w (take n rows) ++ (t ∷ [])) =
    ap (λ (x : List Row). join_lines (row_texts w x)) (take_row rows n h) ∙ ap join_lines (texts_snoc w (take n rows) (row_at rows n)) in
    e ∙ cases (λ (k : ℕ). join_lines (row_texts w (take n rows) ++ (t ∷ [])) ≡ printed w rows k) (is_empty t) (filled_rows w rows n) (suc n)
    (λ z. ap (λ (x : List ℕ). join_lines (row_texts w (take n rows) ++ (x ∷ []))) (empty_is t z) ∙ join_empty (row_texts w (take n rows))
    ∙ joined w rows n (omega arith))
    (λ z. join_filled w (take n rows) t z)

-- ---- `snapshot`: the screen s is read from the record l with the head h, which has e editable rows

module _ (l : List ℕ) (h : Head) (s : Screen) (is : screen_with h l ≡ s) (known : Known l h) (e : ℕ) (ie : e ≡ editable h.keys) where
  text_is : (n : ℕ) → Filled s.head.width s.rows e n → snapshot s ≡ printed s.head.width s.rows n
  unfolding snapshot
  text_is n f =
      let sf : ScreenFacts s = facts_seen l h s is known in
      let k : e ≡ editable s.head.keys = ie ∙ ap (λ (x : Head). editable x.keys) (head_seen l h s is) in
      rw (← k) (joined s.head.width s.rows e (omega (arith, sf.rows.count)) ∙ ap (printed s.head.width s.rows) (sym f.is))

  pub shot_none : (out : List ℕ) → Filled s.head.width s.rows e 0 → Writes (wrote (snapshot s) out) 0 out
  unfolding wrote
  shot_none out f = rw (text_is 0 f) (record { number = refl; left = refl })

  pub shot_done : (out m m' : List ℕ) (x : Row) (r at k : ℕ) → 2024 ≤ length out → Filled s.head.width s.rows e (r + 1) → x ≡ row_of l r
      → Puts (lines s.head.width (take r s.rows)) (81 * r) out m at → Puts (shown h.width x) 80 (take (length m - at) (drop at m)) m' k
      → Writes (wrote (snapshot s) out) (at + k) (put_mid at (length m - at) m m')
  unfolding wrote
  shot_done out m m' x r at k room f ix p q =
      let b : r < 25 = omega (arith, f.most, known.facts.edit_to) in
      let t : snapshot s ≡ lines s.head.width (take r s.rows) ++ shown h.width x =
      text_is (r + 1) f ∙ ap (printed s.head.width s.rows) (add-one r)
      ∙ ap (λ (y : List ℕ). lines s.head.width (take r s.rows) ++ y) (sym (shown_seen l h s is known x r ix b)) in
      let a = puts_more (lines s.head.width (take r s.rows)) (shown h.width x) out m m' (81 * r) 80 at k (omega arith) p q in
      rw t (record { number = a.count; left = a.bytes ∙ write_front out (lines s.head.width (take r s.rows) ++ shown h.width x) (omega (arith, a.count, a.most)) })
