-- The characters of rows one after the other, and the loop that copies them.
-- Assumes nothing.
use Prim.Native.Nat.{ℕ, zero, suc, ◌+◌, ◌-◌, ◌*◌, ◌≤◌, ◌<◌, min}
use mathlib.Core.Path.{◌≡◌, sym, ap, ap₂, ◌∙◌, subst}
use mathlib.Core.List.{List, [], ◌∷◌, ◌++◌}
use native.Mathlib.Nat.{not-suc-le-zero, le_of_suc-le-suc, mul-le-mul, mul-le-mul_right, lt_of_mul-lt-mul_right}
use native.Mathlib.Decide.{dec_lt}
use native.Mathlib.Omega.{arith}
use lib.ListN.{length, get_or, take, drop, replicate, length-append, length-drop, length-take}
use lib.Seq.{take-nil, take-add, take-take, take-append-le, take-append-add, drop-append-add, drop-cons, get_or-drop, length-take-le}
use mir.Syntax.{w64}
use mir.Val.{Fits}
use Rattle.grid.specs.Screen.{Row, Screen, no_row, row_at, trim, is_space}
use Rattle.octets.specs.Part.{write}
use Rattle.grid.specs.Record.{row_of, screen_with}
use Rattle.grid.specs.Facts.{ScreenFacts, Known}
use Rattle.grid.specs.declared.head.Head.{Head}
use Rattle.octets.proofs.PartLaws.{write_append, write_none}
use Rattle.grid.proofs.ScreenLaws.{head_seen, row_seen, facts_seen}
use Rattle.grid.proofs.Trim.{trim_le}
use Rattle.grid.proofs.Keep.{row_at_facts}
use Rattle.line.specs.Line.{MAX-LOGICAL, joined, row_text, whole_rows}
use Rattle.line.specs.Text.{line_from}

-- ---- lists

pub take_min : (a b : ℕ) (l : List ℕ) → take a (take b l) ≡ take (min a b) l
take_min zero b l =
    let e : min 0 b ≡ 0 = omega arith in
    rw e
take_min (suc a) zero l =
    let e : min (suc a) 0 ≡ 0 = omega arith in
    rw e
take_min (suc a) (suc b) [] = sym (take-nil (min (suc a) (suc b)))
take_min (suc a) (suc b) (x ∷ l) =
    let e : min (suc a) (suc b) ≡ suc (min a b) = omega arith in
    rw e (ap (λ (r : List ℕ). x ∷ r) (take_min a b l))

-- ---- joined rows

-- each row has at least w characters
unfoldable pub Wide : ℕ → List Row → Type 0
Wide w rows = (i : ℕ) → i < length rows → w ≤ length (get_or rows i no_row).chars

wide_drop : (w k : ℕ) (rows : List Row) → Wide w rows → Wide w (drop k rows)
unfolding Wide
wide_drop w k rows wide i h =
    subst (λ (x : Row). w ≤ length x.chars) (sym (get_or-drop k rows i no_row)) (wide (k + i) (omega (arith, length-drop k rows)))

wide_tail : (w : ℕ) (x : Row) (rows : List Row) → Wide w (x ∷ rows) → Wide w rows
unfolding Wide
wide_tail w x rows wide i h = wide (suc i) (omega arith)

head_length : (w : ℕ) (x : Row) (rows : List Row) → Wide w (x ∷ rows) → length (take w x.chars) ≡ w
unfolding Wide
head_length w x rows wide = length-take-le w x.chars (wide 0 (omega arith))

wide_rows : (s : Screen) → ScreenFacts s → Wide s.head.width s.rows
unfolding Wide row_at
wide_rows s f i k =
    let q : i < 25 = omega (arith, f.rows.count) in
    omega (arith, (row_at_facts i q f.rows).chars80)

joined_drop : (w k : ℕ) (rows : List Row) → Wide w rows → k ≤ length rows → drop (k * w) (joined w rows) ≡ joined w (drop k rows)
unfolding joined
joined_drop w zero rows wide h =
    let e : 0 * w ≡ 0 = omega arith in
    rw e
joined_drop w (suc k) [] wide h = absurd (not-suc-le-zero h)
joined_drop w (suc k) (x ∷ rows) wide h =
    let n : length (take w x.chars) ≡ w = head_length w x rows wide in
    let e : suc k * w ≡ length (take w x.chars) + k * w = omega arith in
    rw e (drop-append-add (take w x.chars) (joined w rows) (k * w) ∙ joined_drop w k rows (wide_tail w x rows wide) (le_of_suc-le-suc h))

-- whole rows are the first k * w characters
joined_take : (w k : ℕ) (rows : List Row) → Wide w rows → k ≤ length rows → joined w (take k rows) ≡ take (k * w) (joined w rows)
unfolding joined
joined_take w zero rows wide h =
    let e : 0 * w ≡ 0 = omega arith in
    rw e
joined_take w (suc k) [] wide h = absurd (not-suc-le-zero h)
joined_take w (suc k) (x ∷ rows) wide h =
    let n : length (take w x.chars) ≡ w = head_length w x rows wide in
    let e : suc k * w ≡ length (take w x.chars) + k * w = omega arith in
    rw e
    (ap (λ (r : List ℕ). take w x.chars ++ r) (joined_take w k rows (wide_tail w x rows wide) (le_of_suc-le-suc h))
    ∙ sym (take-append-add (take w x.chars) (joined w rows) (k * w)))

-- m characters more, from the row k
joined_more : (w k m : ℕ) (rows : List Row) → Wide w rows → k < length rows → m ≤ w
    → take (k * w + m) (joined w rows) ≡ take (k * w) (joined w rows) ++ take m (get_or rows k no_row).chars
unfolding joined Wide
joined_more w k m rows wide h hm =
    let x : Row = get_or rows k no_row in
    let n : length (take w x.chars) ≡ w = length-take-le w x.chars (wide k h) in
    take-add (k * w) m (joined w rows)
    ∙ ap (λ (r : List ℕ). take (k * w) (joined w rows) ++ r)
    (ap (take m) (joined_drop w k rows wide (omega arith) ∙ ap (joined w) (drop-cons rows k no_row h))
    ∙ take-append-le m (take w x.chars) (joined w (drop (suc k) rows)) (omega arith)
    ∙ take-take m w x.chars hm)

length_joined : (w : ℕ) (rows : List Row) → Wide w rows → length (joined w rows) ≡ length rows * w
unfolding joined
length_joined w [] wide = omega arith
length_joined w (x ∷ rows) wide =
    let n : length (take w x.chars) ≡ w = head_length w x rows wide in
    let ih : length (joined w rows) ≡ length rows * w = length_joined w rows (wide_tail w x rows wide) in
    simp length-append (omega arith)

-- ---- the rows of a screen from start on

module _ (s : Screen) (f : ScreenFacts s) (start : ℕ) where
  wide_from : Wide s.head.width (drop start s.rows)
  wide_from = wide_drop s.head.width start s.rows (wide_rows s f)

  count_from : length (drop start s.rows) ≡ 25 - start
  count_from = length-drop start s.rows ∙ ap (λ (k : ℕ). k - start) f.rows.count

  row_from_is : (r : ℕ) → start ≤ r → get_or (drop start s.rows) (r - start) no_row ≡ row_at s.rows r
  unfolding row_at
  row_from_is r h =
      let q : start + (r - start) ≡ r = omega arith in
      get_or-drop start s.rows (r - start) no_row ∙ ap (λ (j : ℕ). get_or s.rows j no_row) q

  pub length_from : (n : ℕ) → n ≤ (25 - start) * s.head.width → length (line_from s start n) ≡ n
  unfolding line_from
  length_from n h = length-take-le n (joined s.head.width (drop start s.rows)) (rw (length_joined s.head.width (drop start s.rows) wide_from, count_from) h)

  -- n characters more, from the row r
  more_from : (r n : ℕ) → start ≤ r → r < 25 → n ≤ s.head.width
      → line_from s start ((r - start) * s.head.width + n) ≡ line_from s start ((r - start) * s.head.width) ++ take n (row_at s.rows r).chars
  unfolding line_from
  more_from r n h k m =
      rw (← (row_from_is r h)) (joined_more s.head.width (r - start) n (drop start s.rows) wide_from (omega (arith, count_from)) m)

  -- whole rows up to the row r, and n characters of it, cut
  pub cut_from : (r n : ℕ) → start ≤ r → r < 25 → n ≤ s.head.width
      → take MAX-LOGICAL (whole_rows s start r ++ take n (row_text s r)) ≡ line_from s start (min MAX-LOGICAL ((r - start) * s.head.width + n))
  unfolding line_from whole_rows row_text
  cut_from r n h k m =
      let w : ℕ = s.head.width in
      let rows : List Row = drop start s.rows in
      let whole : joined w (take (r - start) rows) ≡ take ((r - start) * w) (joined w rows) = joined_take w (r - start) rows wide_from (omega (arith, count_from)) in
      ap (take MAX-LOGICAL) (ap₂ (λ (u v : List ℕ). u ++ v) whole (take-take n w (row_at s.rows r).chars m) ∙ sym (more_from r n h k m))
      ∙ take_min MAX-LOGICAL ((r - start) * w + n) (joined w rows)

  -- as many as the code reads
  pub fits_from : (r n : ℕ) → start ≤ r → r < 25 → n ≤ s.head.width → (r - start) * s.head.width + n ≤ (25 - start) * s.head.width
  fits_from r n h k m =
      let b : suc (r - start) * s.head.width ≤ (25 - start) * s.head.width = mul-le-mul_right s.head.width (omega arith) in
      omega arith

-- the rows up to the last, and it
pub rows_more : (start end w : ℕ) → start ≤ end → (end + 1 - start) * w ≡ (end - start) * w + w
rows_more start end w h =
    let q : end + 1 - start ≡ suc (end - start) = omega arith in
    rw q (omega arith)

-- where more than a row of characters comes behind a row, another row of the screen follows
pub next_row_inside : (start w r i : ℕ) → start ≤ r → i ≡ (r - start) * w → (n : ℕ) → i + w < n → n ≤ (25 - start) * w → r + 1 < 25
next_row_inside start w r i from is n h h' =
    let q : suc (r - start) * w < (25 - start) * w = omega arith in
    omega (arith, lt_of_mul-lt-mul_right w q)

-- the sums of the code fit
rows_most : (x w : ℕ) → x ≤ 25 → w ≤ 80 → x * w ≤ 2000
rows_most x w h k = mul-le-mul {n₂ = 25} {m₂ = 80} h k

pub rows_fit : (x w : ℕ) → x ≤ 25 → w ≤ 80 → Fits w64 (x * w)
rows_fit x w h k = record { fits = omega (arith, rows_most x w h k) }

pub chars_fit : (x w y : ℕ) → x ≤ 25 → w ≤ 80 → y ≤ 80 → Fits w64 (x * w + y)
chars_fit x w y h k m = record { fits = omega (arith, rows_most x w h k) }

-- a row's text is no longer than the width
pub trim_to : (w : ℕ) (cs : List ℕ) → length (trim (take w cs)) ≤ w
unfolding trim
trim_to w cs =
    let a : length (take w cs) ≤ w = simp length-take (omega arith) in
    omega (arith, trim_le is_space (take w cs))

pub text_to : (s : Screen) (r : ℕ) → length (trim (row_text s r)) ≤ s.head.width
unfolding row_text
text_to s r = trim_to s.head.width (row_at s.rows r).chars

-- ---- joined_rows: behind the rows from start up to r come n characters of the row r, of `most` in all

-- the first n characters from start on over spaces
abbrev pub over_spaces : Screen → ℕ → ℕ → List ℕ
over_spaces s start n = write (replicate MAX-LOGICAL 32) 0 (line_from s start n)

module _ (s : Screen) (f : ScreenFacts s) (start r : ℕ) (from : start ≤ r) (below : r < 25) where
  copied : (m m' : List ℕ) (n : ℕ) → n ≤ s.head.width → m ≡ over_spaces s start ((r - start) * s.head.width)
      → m' ≡ write m ((r - start) * s.head.width) (take n (row_at s.rows r).chars) → m' ≡ over_spaces s start ((r - start) * s.head.width + n)
  copied m m' n h e e' =
      let w : ℕ = s.head.width in
      let cs : List ℕ = line_from s start ((r - start) * w) in
      let t : List ℕ = take n (row_at s.rows r).chars in
      let to : (r - start) * w ≤ (25 - start) * w = mul-le-mul_right w (omega arith) in
      let k : (r - start) * w ≡ 0 + length cs = omega (arith, length_from s f start ((r - start) * w) to) in
      e' ∙ ap₂ (λ (x : List ℕ) (j : ℕ). write x j t) e k ∙ write_append (replicate MAX-LOGICAL 32) 0 cs t
      ∙ ap (write (replicate MAX-LOGICAL 32) 0) (sym (more_from s f start r n from below h))

  turned : (m m' : List ℕ) (most i n : ℕ) → m ≡ over_spaces s start (min most ((r - start) * s.head.width)) → i ≡ min most ((r - start) * s.head.width)
      → n ≡ min s.head.width (most - i) → m' ≡ write m i (take n (row_at s.rows r).chars)
      → m' ≡ over_spaces s start (min most ((r + 1 - start) * s.head.width))
  turned m m' most i n e ei en e' = pick (dec_lt most ((r - start) * s.head.width))
    where
      next : (r + 1 - start) * s.head.width ≡ (r - start) * s.head.width + s.head.width
      next = rows_more start r s.head.width from

      pick : Dec (most < (r - start) * s.head.width) → m' ≡ over_spaces s start (min most ((r + 1 - start) * s.head.width))
      pick (yes h) =
          let w : ℕ = s.head.width in
          let z : n ≡ 0 = omega arith in
          let q : min most ((r - start) * w) ≡ min most ((r + 1 - start) * w) = omega (arith, next) in
          rw z at e' ∙ write_none m i ∙ e ∙ ap (over_spaces s start) q
      pick (no h) =
          let w : ℕ = s.head.width in
          let z : min most ((r - start) * w) ≡ (r - start) * w = omega arith in
          let q : (r - start) * w + n ≡ min most ((r + 1 - start) * w) = omega (arith, next) in
          rw q at (copied m m' n (omega arith) (rw z at e) (rw (ei, z) at e'))

-- ---- the same of a screen that is read from a record

module _ (l : List ℕ) (h : Head) (s : Screen) (known : Known l h) (is : screen_with h l ≡ s) where
  pub width_seen : h.width ≡ s.head.width
  width_seen = ap (λ (x : Head). x.width) (head_seen l h s is)

  pub text_seen : (x : Row) (r : ℕ) → r < 25 → x ≡ row_of l r → take h.width x.chars ≡ row_text s r
  unfolding row_text
  text_seen x r k e = ap₂ (λ (w : ℕ) (y : Row). take w y.chars) width_seen (row_seen l h s is x r k e)

  -- `joined_rows`: a turn of its loop, and the end of it
  pub chars_turn : (m m' cs : List ℕ) (x : Row) (start r most i n : ℕ) → start ≤ r → r < 25
      → m ≡ write (replicate MAX-LOGICAL 32) 0 (line_from s start (min most ((r - start) * h.width)))
      → i ≡ min most ((r - start) * h.width) → n ≡ min h.width (most - i) → x ≡ row_of l r → cs ≡ x.chars → m' ≡ write m i (take n cs)
      → m' ≡ write (replicate MAX-LOGICAL 32) 0 (line_from s start (min most ((r + 1 - start) * h.width)))
  chars_turn m m' cs x start r most i n from below e ei en ex ec e' =
      let c : cs ≡ (row_at s.rows r).chars = ec ∙ ap (λ (y : Row). y.chars) (row_seen l h s is x r below ex) in
      rw width_seen
      (turned s (facts_seen l h s is known) start r from below m m' most i n (rw width_seen at e) (rw width_seen at ei) (rw width_seen at en) (rw c at e'))

  pub chars_end : (m : List ℕ) (start end r most : ℕ) → most ≤ (end + 1 - start) * s.head.width → r ≡ end + 1
      → m ≡ write (replicate MAX-LOGICAL 32) 0 (line_from s start (min most ((r - start) * h.width))) → m ≡ write (replicate MAX-LOGICAL 32) 0 (line_from s start most)
  chars_end m start end r most fits er e =
      let q : min most ((r - start) * h.width) ≡ most = rw (er, width_seen) (omega arith) in
      e ∙ ap (over_spaces s start) q

-- and its beginning
pub chars_start : (s : Screen) (start w most : ℕ)
    → replicate MAX-LOGICAL 32 ≡ write (replicate MAX-LOGICAL 32) 0 (line_from s start (min most ((start - start) * w)))
unfolding line_from
chars_start s start w most =
    let z : start - start ≡ 0 = omega arith in
    let q : min most (0 * w) ≡ 0 = omega arith in
    rw (z, q) (sym (write_none (replicate MAX-LOGICAL 32) 0))
