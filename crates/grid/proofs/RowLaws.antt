-- The laws of `row_of`, `rows_of` and `put_row`: all that a crate above has to know of where a row's bytes lie.
-- Assumes nothing.
use mathlib.Core.Path.{◌≡◌, refl, sym, ap, ◌∙◌}
use mathlib.Core.List.{List, []}
use mathlib.Core.Logic.{◌≢◌, ◌⊎◌, inl, inr, ⊎_elim}
use Prim.Native.Nat.{ℕ, ◌+◌, ◌*◌, ◌-◌, ◌≤◌, ◌<◌}
use native.Mathlib.Decide.{ℕ_discrete, dec_lt}
use native.Mathlib.Omega.{arith}
use lib.ListN.{length, get_or, take, drop, set, length-set, length-append, length-replicate}
use lib.Seq.{ext_get_or, get_or-set_same, get_or-set_other, take-set-le}
use Rattle.std.specs.Array.{IsWholeChunk}
use Rattle.grid.specs.Layout.{SIZE, FLAGS, CHARS, ATTRS}
use Rattle.values.specs.declared.attr.Attr.{Attr}
use Rattle.grid.specs.Screen.{Row, padded, spaced, blank_row, line_row, put_cell, flag_row}
use Rattle.values.specs.Attr.{byte_of}
use Rattle.octets.specs.Part.{window, write}
use Rattle.grid.specs.Record.{row_of, rows_of, Becomes}
use Rattle.octets.proofs.PartLaws.{part_window, length_window, get_d_window, window_set_after, window_set_before, window_set_in, length_write, take_write, get_d_write_before, window_write_before, window_write_after, window_write_same}
use Rattle.octets.proofs.Tables.{length_tabulate, get_d_tabulate}

-- ---- the rows

pub row_eq : (x y : Row) → x.flag ≡ y.flag → x.chars ≡ y.chars → x.attrs ≡ y.attrs → x ≡ y
row_eq x y f c a = λ i. record { flag = f i; chars = c i; attrs = a i }

pub length_rows : (l : List ℕ) → length (rows_of l) ≡ 25
unfolding rows_of
length_rows l = length_tabulate (row_of l) 25

pub get_d_rows : (l : List ℕ) (r : ℕ) (d : Row) → r < 25 → get_or (rows_of l) r d ≡ row_of l r
unfolding rows_of
get_d_rows l r d h = get_d_tabulate (row_of l) 25 r d h

-- a character and an attribute of a row are bytes of the record
pub char_read : (l : List ℕ) (r c : ℕ) → c < 80 → get_or l (CHARS + 80 * r + c) 0 ≡ get_or (row_of l r).chars c 0
unfolding row_of
char_read l r c h = sym (get_d_window l (CHARS + 80 * r) 80 c h)

pub attr_read : (l : List ℕ) (r c : ℕ) → c < 80 → get_or l (ATTRS + 80 * r + c) 0 ≡ get_or (row_of l r).attrs c 0
unfolding row_of
attr_read l r c h = sym (get_d_window l (ATTRS + 80 * r) 80 c h)

-- one row is x, and the others are as they were
pub rows_set : (l l' : List ℕ) (r : ℕ) (x : Row) → r < 25 → row_of l' r ≡ x
    → ((k : ℕ) → k < 25 → k ≢ r → row_of l' k ≡ row_of l k) → rows_of l' ≡ set (rows_of l) r x
rows_set l l' r x h here there =
    ext_get_or x (rows_of l') (set (rows_of l) r x)
    (length_rows l' ∙ sym (length-set (rows_of l) r x ∙ length_rows l))
    (λ k q.
    let p : k < 25 = omega (arith, length_rows l') in
    get_d_rows l' k x p ∙ at k p (ℕ_discrete k r))
  where
    at : (k : ℕ) → k < 25 → Dec (k ≡ r) → row_of l' k ≡ get_or (set (rows_of l) r x) k x
    at k p (yes e) = rw e (here ∙ sym (get_or-set_same (rows_of l) r x x (omega (arith, length_rows l))))
    at k p (no ne) = there k p ne ∙ sym (get_or-set_other (rows_of l) r k x x ne ∙ get_d_rows l k x p)

-- ---- the rows that there are

-- both of its lists are 80 long
pub record Full (x : Row) : Type 0 where
  pub chars80 : length x.chars ≡ 80
  pub attrs80 : length x.attrs ≡ 80

pub full_row : (l : List ℕ) (r : ℕ) → length l ≡ SIZE → r < 25 → Full (row_of l r)
unfolding row_of
full_row l r len h =
    record {
      chars80 = length_window l (CHARS + 80 * r) 80 (omega arith);
      attrs80 = length_window l (ATTRS + 80 * r) 80 (omega arith);
    }

pub length_padded : (w v : ℕ) → w ≤ 80 → length (padded w v) ≡ 80
unfolding padded
length_padded w v h =
    simp (length-append, length-replicate) (omega arith)

-- ---- a row that is written

-- l with the row x written as its row r
unfoldable pub put_row : List ℕ → ℕ → Row → List ℕ
put_row l r x = set (write (write l (CHARS + 80 * r) x.chars) (ATTRS + 80 * r) x.attrs) (FLAGS + r) x.flag

apart : (k r : ℕ) → k ≢ r → Dec (k < r) → (k < r) ⊎ (r < k)
apart k r ne (yes h) = inl h
apart k r ne (no h) = inr (omega arith)

module _ (l : List ℕ) (r : ℕ) (x : Row) (len : length l ≡ SIZE) (below : r < 25) (full : Full x) where
  m₁ : List ℕ
  m₁ = write l (CHARS + 80 * r) x.chars

  m₂ : List ℕ
  m₂ = write m₁ (ATTRS + 80 * r) x.attrs

  n₁ : length m₁ ≡ SIZE
  unfolding m₁
  n₁ = length_write l (CHARS + 80 * r) x.chars ∙ len

  n₂ : length m₂ ≡ SIZE
  unfolding m₂
  n₂ = length_write m₁ (ATTRS + 80 * r) x.attrs ∙ n₁

  put_same : row_of (put_row l r x) r ≡ x
  unfolding row_of put_row m₁ m₂
  put_same =
      row_eq _ _
      (get_or-set_same m₂ (FLAGS + r) x.flag 0 (omega (arith, n₂)))
      (window_set_after m₂ (FLAGS + r) x.flag (CHARS + 80 * r) 80 (omega arith)
      ∙ window_write_before m₁ (ATTRS + 80 * r) x.attrs (CHARS + 80 * r) 80 (omega (arith, n₁)) (omega arith)
      ∙ window_write_same l (CHARS + 80 * r) x.chars 80 (omega arith) full.chars80)
      (window_set_after m₂ (FLAGS + r) x.flag (ATTRS + 80 * r) 80 (omega arith)
      ∙ window_write_same m₁ (ATTRS + 80 * r) x.attrs 80 (omega (arith, n₁)) full.attrs80)

  put_other : (k : ℕ) → k < 25 → k ≢ r → row_of (put_row l r x) k ≡ row_of l k
  unfolding row_of put_row m₁ m₂
  put_other k p ne =
      row_eq _ _
      (get_or-set_other m₂ (FLAGS + r) (FLAGS + k) x.flag 0 (omega arith)
      ∙ get_d_write_before m₁ (ATTRS + 80 * r) x.attrs (FLAGS + k) (omega arith)
      ∙ get_d_write_before l (CHARS + 80 * r) x.chars (FLAGS + k) (omega arith))
      (window_set_after m₂ (FLAGS + r) x.flag (CHARS + 80 * k) 80 (omega arith)
      ∙ window_write_before m₁ (ATTRS + 80 * r) x.attrs (CHARS + 80 * k) 80 (omega (arith, n₁)) (omega arith)
      ∙ ⊎_elim
      (λ (h : k < r). window_write_before l (CHARS + 80 * r) x.chars (CHARS + 80 * k) 80 (omega arith) (omega arith))
      (λ (h : r < k). window_write_after l (CHARS + 80 * r) x.chars (CHARS + 80 * k) 80 (omega arith) (omega arith))
      (apart k r ne (dec_lt k r)))
      (window_set_after m₂ (FLAGS + r) x.flag (ATTRS + 80 * k) 80 (omega arith)
      ∙ ⊎_elim
      (λ (h : k < r). window_write_before m₁ (ATTRS + 80 * r) x.attrs (ATTRS + 80 * k) 80 (omega (arith, n₁)) (omega arith))
      (λ (h : r < k). window_write_after m₁ (ATTRS + 80 * r) x.attrs (ATTRS + 80 * k) 80 (omega (arith, n₁)) (omega arith))
      (apart k r ne (dec_lt k r))
      ∙ window_write_after l (CHARS + 80 * r) x.chars (ATTRS + 80 * k) 80 (omega arith) (omega arith))

  -- THE LAW: to write a row's bytes is to set it in the list of rows
  pub put_becomes : Becomes l (put_row l r x) (set (rows_of l) r x)
  unfolding put_row m₁ m₂
  put_becomes =
      record {
        size = length-set m₂ (FLAGS + r) x.flag ∙ n₂;
        front =
            take-set-le FLAGS m₂ (FLAGS + r) x.flag (omega arith)
            ∙ take_write FLAGS m₁ (ATTRS + 80 * r) x.attrs (omega arith)
            ∙ take_write FLAGS l (CHARS + 80 * r) x.chars (omega arith);
        rows = rows_set l (put_row l r x) r x below put_same put_other;
      }

-- ---- rows that change again

-- what two changes after one another leave
pub and_then : {l m n : List ℕ} {R S T : List Row} → Becomes l m R → Becomes m n S → S ≡ T → Becomes l n T
and_then a b e = record { size = b.size; front = b.front ∙ a.front; rows = b.rows ∙ e }

-- ---- what the functions that write a whole row leave

pub full_line : (w : ℕ) (attr : Attr) (f : ℕ) (s : List ℕ) → length s ≤ w → w ≤ 80 → Full (line_row w attr f s)
unfolding line_row spaced
full_line w attr f s h k =
    record { chars80 = simp (length-append, length-replicate) (omega arith); attrs80 = length_padded w (byte_of attr) k }

module _ (l : List ℕ) (len : length l ≡ SIZE) where
  -- `put_row`
  pub row_put : (x : Row) (cs as' m₁ m₂ : List ℕ) (r f : ℕ) → r < 25 → f ≡ x.flag → cs ≡ x.chars → as' ≡ x.attrs → length x.chars ≡ 80 → length x.attrs ≡ 80
      → m₁ ≡ write l (CHARS + 80 * r) cs → m₂ ≡ write m₁ (ATTRS + 80 * r) as' → Becomes l (set m₂ (FLAGS + r) f) (set (rows_of l) r x)
  unfolding put_row
  row_put x cs as' m₁ m₂ r f h ef ec ea nc na e₁ e₂ = rw (e₂, e₁, ef, ec, ea) (put_becomes l r x len h (record { chars80 = nc; attrs80 = na }))

  pub lined : (text m₁ m₂ : List ℕ) (r w byte f : ℕ) (attr : Attr) → byte ≡ byte_of attr → r < 25 → w ≤ 80 → length text ≤ w
      → m₁ ≡ write l (CHARS + 80 * r) (spaced w text) → m₂ ≡ write m₁ (ATTRS + 80 * r) (padded w byte)
      → Becomes l (set m₂ (FLAGS + r) f) (set (rows_of l) r (line_row w attr f text))
  unfolding put_row line_row
  lined text m₁ m₂ r w byte f attr eb h k hn e₁ e₂ =
      rw (e₂, e₁, eb) (put_becomes l r (line_row w attr f text) len h (full_line w attr f text hn k))

-- a blank row is the line row of no characters
pub blank_is : (w : ℕ) (attr : Attr) → line_row w attr 0 [] ≡ blank_row w attr
unfolding line_row blank_row spaced padded
blank_is w attr =
    let e : w - 0 ≡ w = omega arith in
    rw e

-- `blank_row`
pub blanked : (l m : List ℕ) (r w : ℕ) (attr : Attr) → Becomes l m (set (rows_of l) r (line_row w attr 0 []))
    → Becomes l m (set (rows_of l) r (blank_row w attr))
blanked l m r w attr p = rw blank_is at p

-- `put_cell`
pub celled : (l : List ℕ) (r c ch byte : ℕ) (attr : Attr) → byte ≡ byte_of attr → length l ≡ SIZE → r < 25 → c < 80
    → Becomes l (set (set l (CHARS + 80 * r + c) ch) (ATTRS + 80 * r + c) byte) (set (rows_of l) r (put_cell c ch attr (row_of l r)))
unfolding put_cell row_of
celled l r c ch byte attr eb len h k =
    let m : List ℕ = set l (CHARS + 80 * r + c) ch in
    let n : length m ≡ SIZE = length-set l (CHARS + 80 * r + c) ch ∙ len in
    record {
      size = length-set m (ATTRS + 80 * r + c) byte ∙ n;
      front = take-set-le FLAGS m (ATTRS + 80 * r + c) byte (omega arith) ∙ take-set-le FLAGS l (CHARS + 80 * r + c) ch (omega arith);
      rows =
          rows_set l (set m (ATTRS + 80 * r + c) byte) r _ h
          (row_eq _ _
          (get_or-set_other m (ATTRS + 80 * r + c) (FLAGS + r) byte 0 (omega arith) ∙ get_or-set_other l (CHARS + 80 * r + c) (FLAGS + r) ch 0 (omega arith))
          (window_set_before m (ATTRS + 80 * r + c) byte (CHARS + 80 * r) 80 (omega arith) (omega arith) ∙ window_set_in l (CHARS + 80 * r) c ch 80 k)
          (window_set_in m (ATTRS + 80 * r) c byte 80 k
          ∙ ap (λ (x : List ℕ). set x c byte) (window_set_after l (CHARS + 80 * r + c) ch (ATTRS + 80 * r) 80 (omega arith))
          ∙ ap (λ (b : ℕ). set (window l (ATTRS + 80 * r) 80) c b) eb))
          (λ q p ne.
          row_eq _ _
          (get_or-set_other m (ATTRS + 80 * r + c) (FLAGS + q) byte 0 (omega arith) ∙ get_or-set_other l (CHARS + 80 * r + c) (FLAGS + q) ch 0 (omega arith))
          (window_set_before m (ATTRS + 80 * r + c) byte (CHARS + 80 * q) 80 (omega arith) (omega arith)
          ∙ ⊎_elim
          (λ (b : q < r). window_set_before l (CHARS + 80 * r + c) ch (CHARS + 80 * q) 80 (omega arith) (omega arith))
          (λ (b : r < q). window_set_after l (CHARS + 80 * r + c) ch (CHARS + 80 * q) 80 (omega arith))
          (apart q r ne (dec_lt q r)))
          (⊎_elim
          (λ (b : q < r). window_set_before m (ATTRS + 80 * r + c) byte (ATTRS + 80 * q) 80 (omega arith) (omega arith))
          (λ (b : r < q). window_set_after m (ATTRS + 80 * r + c) byte (ATTRS + 80 * q) 80 (omega arith))
          (apart q r ne (dec_lt q r))
          ∙ window_set_after l (CHARS + 80 * r + c) ch (ATTRS + 80 * q) 80 (omega arith)));
    }

-- `set_flag`
pub flag_set : (l : List ℕ) (r f : ℕ) → length l ≡ SIZE → r < 25 → Becomes l (set l (FLAGS + r) f) (set (rows_of l) r (flag_row f (row_of l r)))
unfolding flag_row row_of
flag_set l r f len h =
    record {
      size = length-set l (FLAGS + r) f ∙ len;
      front = take-set-le FLAGS l (FLAGS + r) f (omega arith);
      rows =
          rows_set l (set l (FLAGS + r) f) r _ h
          (row_eq _ _
          (get_or-set_same l (FLAGS + r) f 0 (omega arith))
          (window_set_after l (FLAGS + r) f (CHARS + 80 * r) 80 (omega arith))
          (window_set_after l (FLAGS + r) f (ATTRS + 80 * r) 80 (omega arith)))
          (λ q p ne.
          row_eq _ _
          (get_or-set_other l (FLAGS + r) (FLAGS + q) f 0 (omega arith))
          (window_set_after l (FLAGS + r) f (CHARS + 80 * q) 80 (omega arith))
          (window_set_after l (FLAGS + r) f (ATTRS + 80 * q) 80 (omega arith)));
    }

-- `Row::of`: the 80 bytes from an index on, as the code reads them
pub row_seen : (l : List ℕ) (r c a : ℕ) (cs as' : List ℕ) → c ≡ CHARS + 80 * r → a ≡ ATTRS + 80 * r
    → IsWholeChunk (take (c + 80 - c) (drop c l)) cs 80 → IsWholeChunk (take (a + 80 - a) (drop a l)) as' 80
    → ◌≡◌ {A = Row} (record { flag = get_or l (FLAGS + r) 0; chars = cs; attrs = as' }) (row_of l r)
unfolding row_of
row_seen l r c a cs as' ec ea x y = row_eq _ _ refl (rw ec at (x.same ∙ part_window l c 80)) (rw ea at (y.same ∙ part_window l a 80))
