-- `head`: the head read and written, and the front written.
-- Assumes nothing.
use Prim.Native.Nat.{ℕ, zero, ◌+◌, ◌*◌, ◌/◌, ◌%◌, ◌≤◌}
use mathlib.Core.Path.{◌≡◌, ap₂, ◌∙◌, subst}
use mathlib.Core.List.{List, [], ◌∷◌, ◌++◌}
use native.Mathlib.Omega.{arith}
use native.Mathlib.Nat.{mod-eq_of_lt}
use lib.Bits.{bit_and, bit_or, and_mask, or_shifted}
use lib.ListN.{length, get_or, drop, set}
use Rattle.octets.specs.Part.{write}
use Rattle.octets.specs.Number.{bytes2, bytes4}
use Rattle.octets.proofs.PartLaws.{write_none, write_more, set_write}
use Rattle.values.specs.Cursor.{at}
use Rattle.values.specs.Attr.{attr_of, byte_of}
use Rattle.values.specs.declared.attr.Attr.{Attr}
use Rattle.values.proofs.AttrLaws.{attr_back}
use Rattle.grid.specs.Layout.{SIZE, VERSION, HEAD, PAIR, TOUCHED, FLAGS}
use Rattle.grid.specs.Pair.{pair_bytes}
use Rattle.grid.specs.Facts.{HeadFacts}
use Rattle.grid.specs.Record.{head_at, bits_byte, head_bytes, front_bytes}
use Rattle.grid.specs.declared.head.Head.{Head}
use Rattle.grid.specs.declared.head.Stamp.{Stamp}
use Rattle.grid.proofs.Record.{heads_eq}

-- `head_at`: w, r, c and a are what it has read of the width, the cursor and the attribute
pub head_read : (l : List ℕ) (i w r c : ℕ) (a : Attr) → w ≡ get_or l i 0 → r ≡ get_or l (i + 1) 0 → c ≡ get_or l (i + 2) 0 → a ≡ attr_of (get_or l (i + 5) 0)
    → ◌≡◌ {A = Head} (record { width = w; cursor = at r c; insert = bit_and (get_or l (i + 3) 0) 1; cr = get_or l (i + 3) 0 / 2; keys = get_or l (i + 4) 0; attr = a }) (head_at l i)
unfolding head_at
head_read l i w r c a ew er ec ea =
    λ j. record { width = ew j; cursor = at (er j) (ec j); insert = and_mask (get_or l (i + 3) 0) 1 j; cr = get_or l (i + 3) 0 / 2; keys = get_or l (i + 4) 0; attr = ea j }

-- `bits_byte`
pub bits_joined : (insert cr : ℕ) → bit_or (bit_and cr 1 * 2 % 256) (bit_and insert 1) ≡ bits_byte insert cr
unfolding bits_byte
bits_joined insert cr =
    let i : bit_and insert 1 ≡ insert % 2 = and_mask insert 1 in
    let c : bit_and cr 1 ≡ cr % 2 = and_mask cr 1 in
    rw (i, c, mod-eq_of_lt {n = cr % 2 * 2} {m = 256} (omega arith)) (or_shifted (cr % 2) 1 (insert % 2) (omega arith))

-- a byte below 4 is that of its two bits
pub bits_back : (b : ℕ) → b / 2 ≤ 1 → bits_byte (b % 2) (b / 2) ≡ b
unfolding bits_byte
bits_back b h = omega arith

module _ (insert cr : ℕ) (i : insert ≤ 1) (c : cr ≤ 1) where
  insert_back : bits_byte insert cr % 2 ≡ insert
  unfolding bits_byte
  insert_back = omega arith

  cr_back : bits_byte insert cr / 2 ≡ cr
  unfolding bits_byte
  cr_back = omega arith

-- and a head is read from its bytes
pub head_whole : (h : Head) → HeadFacts h → head_at (head_bytes h) 0 ≡ h
unfolding head_at
head_whole h f =
    let insert = insert_back h.insert h.cr f.insert f.cr in
    let cr = cr_back h.insert h.cr f.insert f.cr in
    let a = attr_back h.attr f.foreground f.background in
    λ i. record { width = h.width; cursor = h.cursor; insert = insert i; cr = cr i; keys = h.keys; attr = a i }

-- `put_head`
pub headed : (l : List ℕ) (a byte bits : ℕ) (h : Head) → byte ≡ byte_of h.attr → bits ≡ bits_byte h.insert h.cr
    → set (set (set (set (set (set l a h.width) (a + 1) h.cursor.row) (a + 2) h.cursor.col) (a + 3) bits) (a + 4) h.keys) (a + 5) byte
    ≡ write l a (head_bytes h)
headed l a byte bits h eb es =
    let more : (s : List ℕ) (m : List ℕ) (i v : ℕ) → m ≡ write l a s → i ≡ a + length s → set m i v ≡ write l a (s ++ (v ∷ [])) =
    λ s m i v e k. ap₂ (λ (x : List ℕ) (j : ℕ). set x j v) e k ∙ write_more l a s v in
    let e₁ = set_write l a h.width in
    let e₂ = more (h.width ∷ []) _ (a + 1) h.cursor.row e₁ (omega arith) in
    let e₃ = more (h.width ∷ h.cursor.row ∷ []) _ (a + 2) h.cursor.col e₂ (omega arith) in
    let e₄ = more (h.width ∷ h.cursor.row ∷ h.cursor.col ∷ []) _ (a + 3) (bits_byte h.insert h.cr) e₃ (omega arith) in
    let e₅ = more (h.width ∷ h.cursor.row ∷ h.cursor.col ∷ bits_byte h.insert h.cr ∷ []) _ (a + 4) h.keys e₄ (omega arith) in
    let e₆ = more (h.width ∷ h.cursor.row ∷ h.cursor.col ∷ bits_byte h.insert h.cr ∷ h.keys ∷ []) _ (a + 5) (byte_of h.attr) e₅ (omega arith) in
    rw (eb, es) e₆

-- `write_front`
pub fronted : (l m₁ m₂ m₃ m₄ : List ℕ) (h : Head) (s : Stamp) → length l ≡ SIZE → m₁ ≡ write l PAIR (pair_bytes s.pair)
    → m₂ ≡ write m₁ TOUCHED (bytes4 s.touched) → m₃ ≡ write m₂ HEAD (head_bytes h) → m₄ ≡ write m₃ 0 (bytes2 SIZE)
    → set m₄ 2 VERSION ≡ front_bytes h s ++ drop FLAGS l
unfolding write front_bytes
fronted l m₁ m₂ m₃ m₄ h s len e₁ e₂ e₃ e₄ =
    rw (e₄, e₃, e₂, e₁)
    (subst
    (λ (z : List ℕ). set (write (write (write (write z PAIR (pair_bytes s.pair)) TOUCHED (bytes4 s.touched)) HEAD (head_bytes h)) 0 (bytes2 SIZE)) 2 VERSION ≡ front_bytes h s ++ drop FLAGS l)
    (heads_eq FLAGS 0 l (omega arith))
    (rw (write_none (drop FLAGS l) zero)))
