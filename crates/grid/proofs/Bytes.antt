-- A state's bytes are read back as that state, and pass the test of the layout.
-- Assumes nothing.
use Prim.Native.Nat.{ℕ, zero, suc, ◌+◌, ◌*◌, ◌≤◌, ◌<◌}
use mathlib.Core.Path.{◌≡◌, refl, sym, ap, ◌∙◌}
use mathlib.Core.Bool.{true}
use mathlib.Core.List.{List, [], ◌∷◌, ◌++◌}
use native.Mathlib.Omega.{arith}
use lib.ListN.{length, get_or, take, drop, length-append, length-drop, get_or-append}
use lib.Seq.{take_at, take-append-le, drop-append-le, drop-append-add, get_or-append-add, ext_get_or}
use borrow.Author.Tests.{lt-ltb}
use Rattle.grid.specs.Layout.{SIZE, HEAD, PAIR, TOUCHED, FLAGS, CHARS, ATTRS, MASKS}
use Rattle.grid.specs.Screen.{Row, State, no_row, row_at, valid_row, valid_screen}
use Rattle.octets.specs.Test.{every, is_byte}
use Rattle.octets.specs.Part.{window}
use Rattle.octets.specs.Table.{tabulate}
use Rattle.grid.specs.Pair.{pair_at}
use Rattle.grid.specs.Record.{row_of, rows_of, head_of, pair_of, touched_of, screen_of, read_state, flag_bytes, blocks, char_bytes, attr_bytes, rows_bytes, front_bytes, state_bytes, frontb, validb, head_at, stamp_of}
use Rattle.grid.specs.Facts.{RowFacts, RowsFacts, ScreenFacts, StateFacts, Valid}
use Rattle.octets.proofs.Bools.{and_left, and_right, tests}
use Rattle.values.proofs.AttrLaws.{byte_back}
use Rattle.grid.proofs.Record.{rows_bytes_of, heads_eq}
use Rattle.octets.proofs.Tables.{length_tabulate, get_d_tabulate}
use Rattle.grid.proofs.Validity.{row_facts, screen_facts}
use Rattle.grid.proofs.HeadLaws.{head_whole, bits_back}
use Rattle.grid.proofs.PairLaws.{pair_whole, pair_again}
use Rattle.octets.proofs.NumberLaws.{is_byte_lt, four_bytes, whole4}

-- ---- the rows' bytes

length_flags : (rows : List Row) → length (flag_bytes rows) ≡ length rows
unfolding flag_bytes
length_flags [] = refl
length_flags (x ∷ xs) = ap suc (length_flags xs)

flags_at : (rows : List Row) (r : ℕ) → r < length rows → get_or (flag_bytes rows) r 0 ≡ (row_at rows r).flag
unfolding flag_bytes row_at
flags_at [] r h = absurd (omega arith)
flags_at (x ∷ xs) zero h = refl
flags_at (x ∷ xs) (suc r) h = flags_at xs r (omega arith)

-- a part of 80 bytes of each row
module _ (part : Row → List ℕ) (w : ℕ) (part80 : (x : Row) → RowFacts w x → length (part x) ≡ 80) where
  length_blocks : (rows : List Row) → every (valid_row w) rows ≡ true → length (blocks part rows) ≡ 80 * length rows
  unfolding blocks every
  length_blocks [] v = omega arith
  length_blocks (x ∷ xs) v =
      let e = part80 x (row_facts w x (and_left (valid_row w x) _ v)) in
      let ih = length_blocks xs (and_right (valid_row w x) _ v) in
      simp length-append (omega arith)

  blocks_at : (rows : List Row) (r : ℕ) → every (valid_row w) rows ≡ true → r < length rows
      → take 80 (drop (80 * r) (blocks part rows)) ≡ part (row_at rows r)
  unfolding blocks every row_at
  blocks_at [] r v h = absurd (omega arith)
  blocks_at (x ∷ xs) zero v h = take_at (part x) (blocks part xs) 80 (part80 x (row_facts w x (and_left (valid_row w x) _ v)))
  blocks_at (x ∷ xs) (suc r) v h =
      let e = part80 x (row_facts w x (and_left (valid_row w x) _ v)) in
      let k : 80 * suc r ≡ length (part x) + 80 * r = omega arith in
      rw k
      (ap (take 80) (drop-append-add (part x) (blocks part xs) (80 * r)) ∙ blocks_at xs r (and_right (valid_row w x) _ v) (omega arith))

-- n bytes from a on, in what follows p
window_after : (p q : List ℕ) (i a n : ℕ) → i ≡ length p + a → take n (drop i (p ++ q)) ≡ take n (drop a q)
window_after p q i a n e = rw e (ap (take n) (drop-append-add p q a))

-- n bytes from a on, in what stands before q
window_before : (p q : List ℕ) (a n : ℕ) → a + n ≤ length p → take n (drop a (p ++ q)) ≡ take n (drop a p)
window_before p q a n h =
    let l : n ≤ length (drop a p) = simp length-drop (omega arith) in
    ap (take n) (drop-append-le a p q (omega arith)) ∙ take-append-le n (drop a p) q l

module _ (front : List ℕ) (w : ℕ) (rows : List Row) (size : length front ≡ FLAGS) (f : RowsFacts w 25 rows) where
  cs : List ℕ
  cs = char_bytes rows

  as' : List ℕ
  as' = attr_bytes rows

  length_cs : length cs ≡ 2000
  unfolding cs
  length_cs = omega (arith, length_blocks (λ (x : Row). x.chars) w (λ x p. p.chars80) rows f.valid, f.count)

  length_as : length as' ≡ 2000
  unfolding as'
  length_as = omega (arith, length_blocks (λ (x : Row). x.attrs) w (λ x p. p.attrs80) rows f.valid, f.count)

  pub length_rows_bytes : length (rows_bytes rows) ≡ 4025
  unfolding rows_bytes cs as'
  length_rows_bytes = simp length-append (omega (arith, length_flags rows, length_cs, length_as, f.count))

  row_back : (r : ℕ) → r < 25 → row_of (front ++ rows_bytes rows) r ≡ row_at rows r
  unfolding row_of rows_bytes window cs as'
  row_back r h =
      let n : length (flag_bytes rows) ≡ 25 = length_flags rows ∙ f.count in
      let c = length_cs in
      let a = length_as in
      let rest : List ℕ = flag_bytes rows ++ (char_bytes rows ++ attr_bytes rows) in
      let flag : get_or (front ++ rest) (FLAGS + r) 0 ≡ (row_at rows r).flag =
      ap (λ (k : ℕ). get_or (front ++ rest) (k + r) 0) (sym size) ∙ get_or-append-add front rest r 0
      ∙ get_or-append (flag_bytes rows) _ 0 r (omega arith) ∙ flags_at rows r (omega (arith, f.count)) in
      let chars : take 80 (drop (CHARS + 80 * r) (front ++ rest)) ≡ (row_at rows r).chars =
      window_after front rest (CHARS + 80 * r) (25 + 80 * r) 80 (omega arith) ∙ window_after (flag_bytes rows) _ (25 + 80 * r) (80 * r) 80 (omega arith)
      ∙ window_before cs as' (80 * r) 80 (omega arith)
      ∙ blocks_at (λ (x : Row). x.chars) w (λ x p. p.chars80) rows r f.valid (omega (arith, f.count)) in
      let attrs : take 80 (drop (ATTRS + 80 * r) (front ++ rest)) ≡ (row_at rows r).attrs =
      window_after front rest (ATTRS + 80 * r) (2025 + 80 * r) 80 (omega arith) ∙ window_after (flag_bytes rows) _ (2025 + 80 * r) (2000 + 80 * r) 80 (omega arith)
      ∙ window_after cs as' (2000 + 80 * r) (80 * r) 80 (omega arith)
      ∙ blocks_at (λ (x : Row). x.attrs) w (λ x p. p.attrs80) rows r f.valid (omega (arith, f.count)) in
      λ i. record { flag = flag i; chars = chars i; attrs = attrs i }

pub rows_back : (front : List ℕ) (w : ℕ) (rows : List Row) → length front ≡ FLAGS → RowsFacts w 25 rows → rows_of (front ++ rows_bytes rows) ≡ rows
unfolding rows_of row_at
rows_back front w rows size f =
    let l : List ℕ = front ++ rows_bytes rows in
    let n : length (tabulate (row_of l) 25) ≡ 25 = length_tabulate (row_of l) 25 in
    ext_get_or no_row (tabulate (row_of l) 25) rows (n ∙ sym f.count)
    (λ r h.
    let k : r < 25 = omega arith in
    get_d_tabulate (row_of l) 25 r no_row k ∙ row_back front w rows size f r k)

-- ---- the state

module _ (t : State) (v : StateFacts t) where
  facts : ScreenFacts t.screen
  facts = screen_facts t.screen v.screen

  pub state_back : read_state (state_bytes t) ≡ t
  unfolding read_state state_bytes front_bytes head_of head_at stamp_of pair_of pair_at touched_of
  state_back =
      let front = front_bytes t.screen.head t.stamp in
      let r = rows_back front _ t.screen.rows refl facts.rows in
      let p = pair_whole t.stamp.pair v.pair in
      let m = whole4 t.stamp.touched (omega arith) in
      let h = head_whole t.screen.head facts.head in
      λ i. record { screen = record { head = h i; rows = r i }; stamp = record { pair = p i; touched = m i } }

  pub length_state : length (state_bytes t) ≡ SIZE
  unfolding state_bytes front_bytes
  length_state = omega (arith, length_rows_bytes (front_bytes t.screen.head t.stamp) _ t.screen.rows refl facts.rows)

  pub pair_back : pair_of (state_bytes t) ≡ t.stamp.pair
  unfolding read_state stamp_of
  pair_back = ap (λ (x : State). x.stamp.pair) state_back

  pub state_valid : validb (state_bytes t) ≡ true
  unfolding validb frontb read_state stamp_of touched_of
  state_valid =
      let l = length_state in
      let m : touched_of (state_bytes t) ≡ t.stamp.touched = ap (λ (x : State). x.stamp.touched) state_back in
      let a = lt-ltb (touched_of (state_bytes t)) MASKS (omega arith) in
      let s : valid_screen (screen_of (state_bytes t)) ≡ true = ap (λ (x : State). valid_screen x.screen) state_back ∙ v.screen in
      unfold state_bytes front_bytes in search tests depth 8

-- ---- and the other way round: a valid record's bytes are those of the state that it holds

module _ (l : List ℕ) (v : Valid l) (b : every is_byte l ≡ true) where
  byte_at : (i : ℕ) → i < SIZE → get_or l i 0 < 256
  byte_at i h = is_byte_lt l i b (omega (arith, v.size))

  pub bytes_back : state_bytes (read_state l) ≡ l
  unfolding state_bytes read_state front_bytes head_of head_at stamp_of pair_of pair_at touched_of
  bytes_back =
      let p = pair_again l PAIR b (omega (arith, v.size)) in
      let t = four_bytes l TOUCHED b (omega (arith, v.size)) in
      let a = byte_back (get_or l (HEAD + 5) 0) (byte_at (HEAD + 5) (omega arith)) in
      let bits = bits_back (get_or l (HEAD + 3) 0) v.screen.head.cr in
      let r = rows_bytes_of l v.size in
      let high = sym v.length_high in
      let low = sym v.length_low in
      let version = sym v.version in
      (λ i.
      (high i ∷ low i ∷ version i ∷ get_or l HEAD 0 ∷ get_or l (HEAD + 1) 0 ∷ get_or l (HEAD + 2) 0 ∷ bits i
      ∷ get_or l (HEAD + 4) 0 ∷ a i ∷ []) ++ p i ++ t i ++ r i)
      ∙ heads_eq FLAGS 0 l (omega (arith, v.size))
