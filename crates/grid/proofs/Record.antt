-- A record's bytes from its parts: what stands behind the first FLAGS bytes is the rows' bytes, and what a changing call leaves is a state's bytes.
-- Assumes nothing.
use Prim.Native.Nat.{ℕ, zero, suc, ◌+◌, ◌*◌, ◌≤◌}
use mathlib.Core.Path.{◌≡◌, refl, sym, ap, ap₂, ◌∙◌}
use mathlib.Core.List.{List, [], ◌∷◌, ◌++◌, append_assoc, append-nil}
use native.Mathlib.Omega.{arith}
use lib.ListN.{length, get_or, take, drop, length-drop, take-append-drop}
use lib.Seq.{take-suc, take-add, take_all, drop-drop, drop-cons, get_or-drop}
use Rattle.grid.specs.Layout.{SIZE, FLAGS, CHARS, ATTRS}
use Rattle.grid.specs.Screen.{Row}
use Rattle.octets.specs.Part.{window}
use Rattle.octets.specs.Table.{tabulate}
use Rattle.grid.specs.Record.{row_of, rows_of, front_bytes, flag_bytes, blocks, char_bytes, attr_bytes, rows_bytes, state_bytes}
use Rattle.grid.specs.declared.head.Head.{Head}
use Rattle.grid.specs.declared.head.Stamp.{Stamp}

-- ---- the rows' bytes

flags_append : (xs ys : List Row) → flag_bytes (xs ++ ys) ≡ flag_bytes xs ++ flag_bytes ys
unfolding flag_bytes
flags_append [] ys = refl
flags_append (x ∷ xs) ys = ap (λ (l : List ℕ). x.flag ∷ l) (flags_append xs ys)

pub blocks_append : (part : Row → List ℕ) (xs ys : List Row) → blocks part (xs ++ ys) ≡ blocks part xs ++ blocks part ys
unfolding blocks
blocks_append part [] ys = refl
blocks_append part (x ∷ xs) ys =
    ap (λ (l : List ℕ). part x ++ l) (blocks_append part xs ys) ∙ sym (append_assoc (part x) (blocks part xs) (blocks part ys))

module _ (l : List ℕ) (len : length l ≡ SIZE) where
  flags_read : (n : ℕ) → n ≤ 25 → flag_bytes (tabulate (row_of l) n) ≡ take n (drop FLAGS l)
  unfolding flag_bytes tabulate row_of
  flags_read zero h = refl
  flags_read (suc n) h =
      flags_append (tabulate (row_of l) n) (row_of l n ∷ [])
      ∙ ap₂ (λ (u : List ℕ) (v : ℕ). u ++ (v ∷ [])) (flags_read n (omega arith)) (sym (get_or-drop FLAGS l n 0))
      ∙ sym (take-suc (drop FLAGS l) n 0 (simp length-drop (omega arith)))

  -- 80 bytes of each row, from index a on
  block : (a n : ℕ) → take (80 * n) (drop a l) ++ (window l (a + 80 * n) 80 ++ []) ≡ take (80 * suc n) (drop a l)
  unfolding window
  block a n =
      let k : 80 * suc n ≡ 80 * n + 80 = omega arith in
      ap (λ (x : List ℕ). take (80 * n) (drop a l) ++ x) (append-nil (take 80 (drop (a + 80 * n) l)) ∙ ap (take 80) (sym (drop-drop (80 * n) a l)))
      ∙ sym (take-add (80 * n) 80 (drop a l)) ∙ ap (λ (i : ℕ). take i (drop a l)) (sym k)

  -- a part of each row, which stands at a + 80 * r
  blocks_read : (part : Row → List ℕ) (a : ℕ) → ((r : ℕ) → part (row_of l r) ≡ window l (a + 80 * r) 80) → (n : ℕ)
      → blocks part (tabulate (row_of l) n) ≡ take (80 * n) (drop a l)
  unfolding blocks tabulate
  blocks_read part a is zero = refl
  blocks_read part a is (suc n) =
      blocks_append part (tabulate (row_of l) n) (row_of l n ∷ [])
      ∙ ap₂ (λ (u v : List ℕ). u ++ (v ++ [])) (blocks_read part a is n) (is n) ∙ block a n

  chars_read : char_bytes (rows_of l) ≡ take 2000 (drop CHARS l)
  unfolding rows_of row_of
  chars_read = blocks_read (λ (x : Row). x.chars) CHARS (λ r. refl) 25

  attrs_read : attr_bytes (rows_of l) ≡ take 2000 (drop ATTRS l)
  unfolding rows_of row_of
  attrs_read = blocks_read (λ (x : Row). x.attrs) ATTRS (λ r. refl) 25

  pub rows_bytes_of : rows_bytes (rows_of l) ≡ drop FLAGS l
  unfolding rows_bytes
  rows_bytes_of =
      let f : flag_bytes (rows_of l) ≡ take 25 (drop FLAGS l) = unfold rows_of in flags_read 25 (omega arith) in
      let n : length (drop ATTRS l) ≤ 2000 = simp length-drop (omega arith) in
      let a : attr_bytes (rows_of l) ≡ drop 2000 (drop CHARS l) =
      attrs_read ∙ take_all 2000 (drop ATTRS l) n ∙ sym (drop-drop 2000 CHARS l) in
      let q : take 2000 (drop CHARS l) ++ drop 2000 (drop CHARS l) ≡ drop 25 (drop FLAGS l) = take-append-drop 2000 (drop CHARS l) ∙ sym (drop-drop 25 FLAGS l) in
      ap₂ (λ (u v : List ℕ). u ++ v) f (ap₂ (λ (u v : List ℕ). u ++ v) chars_read a ∙ q) ∙ take-append-drop 25 (drop FLAGS l)

-- ---- the first FLAGS bytes

-- the first n bytes from place j on, one by one, and the rest: `heads FLAGS 0 l` computes to a list of FLAGS and a rest
abbrev pub heads : ℕ → ℕ → List ℕ → List ℕ
heads zero j l = drop j l
heads (suc n) j l = get_or l j 0 ∷ heads n (suc j) l

pub heads_eq : (n j : ℕ) (l : List ℕ) → n + j ≤ length l → heads n j l ≡ drop j l
heads_eq zero j l h = refl
heads_eq (suc n) j l h = ap (λ (x : List ℕ). get_or l j 0 ∷ x) (heads_eq n (suc j) l (omega arith)) ∙ sym (drop-cons l j 0 (omega arith))

-- ---- what a changing call leaves

-- the rows of m are R, and its first FLAGS bytes are written anew
pub left_bytes : (m n : List ℕ) (h : Head) (R : List Row) (s : Stamp) → length m ≡ SIZE → rows_of m ≡ R
    → n ≡ front_bytes h s ++ drop FLAGS m
    → n ≡ state_bytes (record { screen = record { head = h; rows = R }; stamp = s })
unfolding state_bytes
left_bytes m n h R s len e en =
    en ∙ ap (λ (x : List ℕ). front_bytes h s ++ x) (sym (rows_bytes_of m len) ∙ ap rows_bytes e)
