-- The strip: a slot, and the slots one after the other.
-- Assumes nothing.
use Prim.Native.Nat.{ℕ, zero, suc, ◌+◌, ◌-◌, ◌*◌, ◌%◌, ◌≤◌, ◌<◌, min}
use mathlib.Core.Path.{◌≡◌, refl, sym, ap, ◌∙◌}
use mathlib.Core.List.{List, [], ◌∷◌, ◌++◌, map, map-append}
use native.Mathlib.Numerals.{add-one}
use native.Mathlib.Omega.{arith}
use borrow.Rule.Slice.PartMut.{put_mid}
use lib.ListN.{length, get_or, take, set, replicate, length-map, length-append, length-take, length-replicate}
use lib.Seq.{take-suc, take-nil, take_all, length-take-le}
use Rattle.std.proofs.lemmas.List.{take-map, drop-replicate}
use Rattle.octets.specs.Part.{write}
use Rattle.octets.proofs.PartLaws.{length_write, write_none, write_more, write_append, write_front, put_part}
use Rattle.keys.specs.Keys.{display, displayed, digit, slot, slots_from}

-- ---- `slot`: n is how many bytes it shows, d what `digit` has answered, b what `display_byte` has

take_of_take : (a b : ℕ) (l : List ℕ) → take a (take b l) ≡ take (min a b) l
take_of_take zero b l =
    let e : min 0 b ≡ 0 = omega arith in
    rw e
take_of_take (suc a) zero l =
    let e : min (suc a) 0 ≡ 0 = omega arith in
    rw e
take_of_take (suc a) (suc b) [] = sym (take-nil (min (suc a) (suc b)))
take_of_take (suc a) (suc b) (x ∷ l) =
    let e : min (suc a) (suc b) ≡ suc (min a b) = omega arith in
    rw e (ap (λ (r : List ℕ). x ∷ r) (take_of_take a b l))

pub shown_turn : (l shown : List ℕ) (i b : ℕ) → i < length shown → b ≡ display (get_or shown i 0)
    → set (write l 1 (map display (take i shown))) (1 + i) b ≡ write l 1 (map display (take (i + 1) shown))
shown_turn l shown i b h is =
    let s : List ℕ = map display (take i shown) in
    let len : length s ≡ i = length-map (take i shown) display ∙ length-take-le i shown (omega arith) in
    let more : map display (take (i + 1) shown) ≡ s ++ b ∷ [] =
    ap (λ (n : ℕ). map display (take n shown)) (add-one i) ∙ ap (map display) (take-suc shown i 0 h)
    ∙ map-append display (take i shown) (get_or shown i 0 ∷ []) ∙ ap (λ (x : ℕ). s ++ x ∷ []) (sym is) in
    ap (λ (n : ℕ). set (write l 1 s) (1 + n) b) (sym len) ∙ write_more l 1 s b ∙ ap (write l 1) (sym more)

module _ (macros : List (List ℕ)) (lengths : List ℕ) (key : ℕ) where
  shown_six : take 6 (displayed macros key (get_or lengths key 0)) ≡ map display (take (min 6 (get_or lengths key 0)) (get_or macros key []))
  unfolding displayed
  shown_six =
      let shown : List ℕ = get_or macros key [] in
      take-map display 6 (take (get_or lengths key 0) shown) ∙ ap (map display) (take_of_take 6 (get_or lengths key 0) shown)

  pub slot_end : (m : List ℕ) (n d i : ℕ) → n ≡ min (get_or lengths key 0) 6 → d ≡ digit key → length (take n (get_or macros key [])) ≤ i
      → m ≡ write (d ∷ replicate 7 32) 1 (map display (take i (take n (get_or macros key [])))) → m ≡ slot macros lengths key
  unfolding slot write
  slot_end m n d i en ed done em =
      let shown : List ℕ = take n (get_or macros key []) in
      let s : List ℕ = map display shown in
      let of : n ≡ min 6 (get_or lengths key 0) = omega arith in
      let six : s ≡ take 6 (displayed macros key (get_or lengths key 0)) =
      ap (λ (k : ℕ). map display (take k (get_or macros key []))) of ∙ sym shown_six in
      let few : length s ≤ 7 = simp (length-map, length-take) (omega arith) in
      rw (em, take_all i shown done, ed, ← six)
      (ap (λ (r : List ℕ). digit key ∷ r) (write_front (replicate 7 32) s few ∙ ap (λ (r : List ℕ). s ++ r) (drop-replicate (length s) 7 32)))

-- ---- `strip`

length_slot : (macros : List (List ℕ)) (lengths : List ℕ) (k : ℕ) → length (slot macros lengths k) ≡ 8
unfolding slot
length_slot macros lengths k =
    let six : List ℕ = take 6 (displayed macros k (get_or lengths k 0)) in
    let few : length six ≤ 6 = simp length-take (omega arith) in
    simp (length-append, length-replicate) (omega arith)

module _ (macros : List (List ℕ)) (lengths : List ℕ) (offset : ℕ) where
  pub length_slots : (n : ℕ) → length (slots_from macros lengths offset n) ≡ 8 * n
  unfolding slots_from
  length_slots zero = refl
  length_slots (suc n) =
      simp length-append (omega (arith, length_slots n, length_slot macros lengths ((offset + n) % 10)))

  slots_more : (n : ℕ) → slots_from macros lengths offset (n + 1) ≡ slots_from macros lengths offset n ++ slot macros lengths ((offset + n) % 10)
  unfolding slots_from
  slots_more n = rw add-one

  pub strip_start : (l : List ℕ) → write l 0 (slots_from macros lengths offset 0) ≡ l
  unfolding slots_from
  strip_start l = write_none l 0

  pub strip_turn : (l t : List ℕ) (i : ℕ) → t ≡ slot macros lengths ((offset + i) % 10) → 8 * i + 8 ≤ length l
      → put_mid (8 * i) (8 * i + 8 - 8 * i) (write l 0 (slots_from macros lengths offset i)) t ≡ write l 0 (slots_from macros lengths offset (i + 1))
  strip_turn l t i is room =
      let s : List ℕ = slots_from macros lengths offset i in
      let m : List ℕ = slot macros lengths ((offset + i) % 10) in
      let at : 8 * i ≡ 0 + length s = omega (arith, length_slots i) in
      put_part (write l 0 s) (8 * i) 8 t m is (length_slot macros lengths ((offset + i) % 10)) (omega (arith, length_write l 0 s))
      ∙ ap (λ (a : ℕ). write (write l 0 s) a m) at ∙ write_append l 0 s m ∙ ap (write l 0) (sym (slots_more i))
