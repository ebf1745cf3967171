-- The laws of `window` and `write`: bytes read and written in the middle of a list.
-- `-before` and `-after` say where what is looked at lies: before what is written, or after it.
-- Assumes nothing.
use mathlib.Core.Path.{◌≡◌, refl, sym, ap, ◌∙◌}
use mathlib.Core.List.{List, [], ◌∷◌, ◌++◌}
use Prim.Native.Nat.{ℕ, zero, suc, ◌+◌, ◌-◌, ◌≤◌, ◌<◌}
use native.Mathlib.Nat.{zero-add, suc-add, le_of_suc-le-suc, not-suc-le-zero}
use native.Mathlib.Omega.{arith}
use lib.ListN.{length, get_or, take, drop, set, length-set, length-drop}
use lib.Seq.{get_or-take, get_or-drop, ext_get_or, drop-set-lt, drop-set-add, take-set-lt, get_or-set_other, length-take-le, take-take, take-nil, drop-drop}
use borrow.Rule.Slice.PartMut.{put_mid}
use Rattle.std.proofs.Common.{append_assoc}
use Rattle.std.specs.List.{copy_within}
use Rattle.octets.specs.Part.{window, write}

-- ---- a window

pub length_window : (l : List ℕ) (a n : ℕ) → a + n ≤ length l → length (window l a n) ≡ n
unfolding window
length_window l a n h = length-take-le n (drop a l) (rw length-drop (omega arith))

pub get_d_window : (l : List ℕ) (a n i : ℕ) → i < n → get_or (window l a n) i 0 ≡ get_or l (a + i) 0
unfolding window
get_d_window l a n i h = rw (get_or-take, get_or-drop)

-- two windows are equal where each byte is
pub window_ext : (l m : List ℕ) (a n : ℕ) → a + n ≤ length l → a + n ≤ length m
    → ((i : ℕ) → i < n → get_or l (a + i) 0 ≡ get_or m (a + i) 0) → window l a n ≡ window m a n
window_ext l m a n h k same =
    ext_get_or 0 (window l a n) (window m a n) (length_window l a n h ∙ sym (length_window m a n k))
    (λ i q.
    let p : i < n = omega (arith, length_window l a n h) in
    get_d_window l a n i p ∙ same i p ∙ sym (get_d_window m a n i p))

pub window_window : (l : List ℕ) (a k m n : ℕ) → k + n ≤ m → a + m ≤ length l → window (window l a m) k n ≡ window l (a + k) n
window_window l a k m n h len =
    let lm : length (window l a m) ≡ m = length_window l a m len in
    let e : length (window (window l a m) k n) ≡ n = length_window (window l a m) k n (omega arith) in
    ext_get_or 0 (window (window l a m) k n) (window l (a + k) n) (e ∙ sym (length_window l (a + k) n (omega arith)))
    (λ i q.
    let p : i < n = omega arith in
    get_d_window (window l a m) k n i p ∙ get_d_window l a m (k + i) (omega arith) ∙ ap (λ (j : ℕ). get_or l j 0) (omega arith)
    ∙ sym (get_d_window l (a + k) n i p))

-- ---- a store

pub window_set_after : (l : List ℕ) (i v a n : ℕ) → i < a → window (set l i v) a n ≡ window l a n
unfolding window
window_set_after l i v a n h = rw drop-set-lt

pub window_set_before : (l : List ℕ) (i v a n : ℕ) → a + n ≤ length l → a + n ≤ i → window (set l i v) a n ≡ window l a n
window_set_before l i v a n h k =
    window_ext (set l i v) l a n (simp length-set h) h (λ j p. get_or-set_other l i (a + j) v 0 (omega arith))

pub window_set_in : (l : List ℕ) (a j v n : ℕ) → j < n → window (set l (a + j) v) a n ≡ set (window l a n) j v
unfolding window
window_set_in l a j v n h = rw (drop-set-add, take-set-lt)

-- ---- a run of stores

pub length_write : (l : List ℕ) (a : ℕ) (s : List ℕ) → length (write l a s) ≡ length l
unfolding write
length_write [] a s = refl
length_write (x ∷ l) (suc a) s = ap suc (length_write l a s)
length_write (x ∷ l) zero [] = refl
length_write (x ∷ l) zero (y ∷ s) = ap suc (length_write l zero s)

pub write_none : (l : List ℕ) (a : ℕ) → write l a [] ≡ l
unfolding write
write_none [] a = refl
write_none (x ∷ l) (suc a) = ap (λ (r : List ℕ). x ∷ r) (write_none l a)
write_none (x ∷ l) zero = refl

pub get_d_write_before : (l : List ℕ) (a : ℕ) (s : List ℕ) (k : ℕ) → k < a → get_or (write l a s) k 0 ≡ get_or l k 0
unfolding write
get_d_write_before [] a s k h = refl
get_d_write_before (x ∷ l) zero s k h = absurd (not-suc-le-zero h)
get_d_write_before (x ∷ l) (suc a) s zero h = refl
get_d_write_before (x ∷ l) (suc a) s (suc k) h = get_d_write_before l a s k (le_of_suc-le-suc h)

pub get_d_write_after : (l : List ℕ) (a : ℕ) (s : List ℕ) (k : ℕ) → a + length s ≤ k → get_or (write l a s) k 0 ≡ get_or l k 0
unfolding write
get_d_write_after [] a s k h = refl
get_d_write_after (x ∷ l) (suc a) s zero h = absurd (not-suc-le-zero (rw suc-add at h))
get_d_write_after (x ∷ l) (suc a) s (suc k) h = get_d_write_after l a s k (le_of_suc-le-suc (rw suc-add at h))
get_d_write_after (x ∷ l) zero [] k h = refl
get_d_write_after (x ∷ l) zero (y ∷ s) zero h = absurd (not-suc-le-zero (rw zero-add at h))
get_d_write_after (x ∷ l) zero (y ∷ s) (suc k) h = get_d_write_after l zero s k (omega arith)

pub get_d_write_in : (l : List ℕ) (a : ℕ) (s : List ℕ) (j : ℕ) → a + j < length l → j < length s → get_or (write l a s) (a + j) 0 ≡ get_or s j 0
unfolding write
get_d_write_in [] a s j h k = absurd (not-suc-le-zero h)
get_d_write_in (x ∷ l) (suc a) s j h k = rw suc-add (get_d_write_in l a s j (omega arith) k)
get_d_write_in (x ∷ l) zero [] j h k = absurd (not-suc-le-zero k)
get_d_write_in (x ∷ l) zero (y ∷ s) zero h k = refl
get_d_write_in (x ∷ l) zero (y ∷ s) (suc j) h k =
    ap (λ (i : ℕ). get_or (y ∷ write l zero s) i 0) (zero-add (suc j) ∙ ap suc (sym (zero-add j)))
    ∙ get_d_write_in l zero s j (omega arith) (le_of_suc-le-suc k)

pub take_write : (n : ℕ) (l : List ℕ) (a : ℕ) (s : List ℕ) → n ≤ a → take n (write l a s) ≡ take n l
unfolding write
take_write zero l a s h = refl
take_write (suc n) [] a s h = refl
take_write (suc n) (x ∷ l) zero s h = absurd (not-suc-le-zero h)
take_write (suc n) (x ∷ l) (suc a) s h = ap (λ (r : List ℕ). x ∷ r) (take_write n l a s (le_of_suc-le-suc h))

-- a run, and another behind it
pub write_append : (l : List ℕ) (a : ℕ) (s t : List ℕ) → write (write l a s) (a + length s) t ≡ write l a (s ++ t)
unfolding write
write_append [] a s t = refl
write_append (x ∷ l) (suc a) s t = rw suc-add (ap (λ (r : List ℕ). x ∷ r) (write_append l a s t))
write_append (x ∷ l) zero [] t = refl
write_append (x ∷ l) zero (y ∷ s) t =
    ap (λ (i : ℕ). write (y ∷ write l zero s) i t) (zero-add (suc (length s)) ∙ ap suc (sym (zero-add (length s))))
    ∙ ap (λ (r : List ℕ). y ∷ r) (write_append l zero s t)

-- a run, and a store in front of it
pub cons_write : (l : List ℕ) (a v : ℕ) (s : List ℕ) → set (write l (a + 1) s) a v ≡ write l a (v ∷ s)
unfolding write
cons_write [] a v s = refl
cons_write (x ∷ l) zero v s = refl
cons_write (x ∷ l) (suc a) v s = ap (λ (i : ℕ). set (write (x ∷ l) i s) (suc a) v) (suc-add a 1) ∙ ap (λ (r : List ℕ). x ∷ r) (cons_write l a v s)

-- a store is a run of one, and so is one more store behind a run
pub set_write : (l : List ℕ) (a v : ℕ) → set l a v ≡ write l a (v ∷ [])
set_write l a v = ap (λ (m : List ℕ). set m a v) (sym (write_none l (a + 1))) ∙ cons_write l a v []

pub write_more : (l : List ℕ) (a : ℕ) (s : List ℕ) (v : ℕ) → set (write l a s) (a + length s) v ≡ write l a (s ++ (v ∷ []))
write_more l a s v = set_write (write l a s) (a + length s) v ∙ write_append l a s (v ∷ [])

-- ---- a window after a run of stores

module _ (l : List ℕ) (a : ℕ) (s : List ℕ) where
  pub window_write_before : (b n : ℕ) → b + n ≤ length l → b + n ≤ a → window (write l a s) b n ≡ window l b n
  window_write_before b n h k =
      window_ext (write l a s) l b n (rw length_write h) h (λ i p. get_d_write_before l a s (b + i) (omega arith))

  pub window_write_after : (b n : ℕ) → b + n ≤ length l → a + length s ≤ b → window (write l a s) b n ≡ window l b n
  window_write_after b n h k =
      window_ext (write l a s) l b n (rw length_write h) h (λ i p. get_d_write_after l a s (b + i) (omega arith))

  pub window_write_same : (n : ℕ) → a + n ≤ length l → length s ≡ n → window (write l a s) a n ≡ s
  window_write_same n h e =
      let h' : a + n ≤ length (write l a s) = rw length_write h in
      let len : length (window (write l a s) a n) ≡ n = length_window (write l a s) a n h' in
      ext_get_or 0 (window (write l a s) a n) s (len ∙ sym e)
      (λ i q. get_d_window (write l a s) a n i (omega arith) ∙ get_d_write_in l a s i (omega arith) (omega arith))

  pub window_write_inside : (j n : ℕ) → a + length s ≤ length l → j + n ≤ length s → window (write l a s) (a + j) n ≡ window s j n
  window_write_inside j n h k =
      let h' : a + j + n ≤ length (write l a s) = rw length_write (omega arith) in
      let len : length (window (write l a s) (a + j) n) ≡ n = length_window (write l a s) (a + j) n h' in
      ext_get_or 0 (window (write l a s) (a + j) n) (window s j n) (len ∙ sym (length_window s j n k))
      (λ i q.
      let p : i < n = omega arith in
      get_d_window (write l a s) (a + j) n i p ∙ ap (λ (x : ℕ). get_or (write l a s) x 0) (omega arith)
      ∙ get_d_write_in l a s (j + i) (omega arith) (omega arith) ∙ sym (get_d_window s j n i p))

-- ---- written at once

-- what a list is in which k elements from index a on have given way to s
pub put_write : (l : List ℕ) (a : ℕ) (s : List ℕ) (k : ℕ) → k ≡ length s → a + k ≤ length l → take a l ++ (s ++ drop (a + k) l) ≡ write l a s
unfolding write
put_write [] zero [] k e h = rw e
put_write [] zero (y ∷ s) k e h = absurd (omega arith)
put_write [] (suc a) s k e h = absurd (omega arith)
put_write (x ∷ l) (suc a) s k e h = rw suc-add (ap (λ (r : List ℕ). x ∷ r) (put_write l a s k e (omega arith)))
put_write (x ∷ l) zero [] k e h = rw e
put_write (x ∷ l) zero (y ∷ s) k e h =
    let f : 0 + k ≡ suc (0 + length s) = omega arith in
    rw f (ap (λ (r : List ℕ). y ∷ r) (put_write l zero s (length s) refl (omega arith)))

-- as std's writes of a part leave it
pub put_part : (l : List ℕ) (a n : ℕ) (t s : List ℕ) → t ≡ s → length s ≡ n → a + n ≤ length l → put_mid a (a + n - a) l t ≡ write l a s
put_part l a n t s e k h =
    let f : a + n - a ≡ n = omega arith in
    rw (f, e, drop-drop n a l) (put_write l a s n (sym k) h)

-- a part of a slice, as `s[a..a + n]` is read
pub part_window : (l : List ℕ) (a n : ℕ) → take (a + n - a) (drop a l) ≡ window l a n
unfolding window
part_window l a n =
    let e : a + n - a ≡ n = omega arith in
    rw e

pub put_along : (l : List ℕ) (from to n : ℕ) → from + n ≤ length l → to + n ≤ length l → copy_within l from (from + n) to ≡ write l to (window l from n)
put_along l from to n h k =
    let f : from + n - from ≡ n = omega arith in
    rw (f, append_assoc) (unfold window in put_write l to (window l from n) n (sym (length_window l from n h)) k)

-- ---- a whole part

pub write_write : (l : List ℕ) (a : ℕ) (s t : List ℕ) → length t ≤ length s → write (write l a s) a t ≡ write l a (write s zero t)
unfolding write
write_write [] a s t h = refl
write_write (x ∷ l) (suc a) s t h = ap (λ (r : List ℕ). x ∷ r) (write_write l a s t h)
write_write (x ∷ l) zero [] [] h = refl
write_write (x ∷ l) zero [] (z ∷ t) h = absurd (not-suc-le-zero h)
write_write (x ∷ l) zero (y ∷ s) [] h = refl
write_write (x ∷ l) zero (y ∷ s) (z ∷ t) h = ap (λ (r : List ℕ). z ∷ r) (write_write l zero s t (le_of_suc-le-suc h))

pub write_front : (s t : List ℕ) → length t ≤ length s → write s zero t ≡ t ++ drop (length t) s
unfolding write
write_front [] [] h = refl
write_front [] (z ∷ t) h = absurd (not-suc-le-zero h)
write_front (y ∷ s) [] h = refl
write_front (y ∷ s) (z ∷ t) h = ap (λ (r : List ℕ). z ∷ r) (write_front s t (le_of_suc-le-suc h))

pub take_window : (l : List ℕ) (a w n : ℕ) → w ≤ n → take w (window l a n) ≡ window l a w
unfolding window
take_window l a w n h = take-take w n (drop a l) h

pub drop_take : (w n : ℕ) (l : List ℕ) → drop w (take n l) ≡ take (n - w) (drop w l)
drop_take zero n l =
    let e : n - 0 ≡ n = omega arith in
    rw e
drop_take (suc w) zero l =
    let e : 0 - suc w ≡ 0 = omega arith in
    rw e
drop_take (suc w) (suc n) [] = sym (take-nil (suc n - suc w))
drop_take (suc w) (suc n) (x ∷ l) =
    let e : suc n - suc w ≡ n - w = omega arith in
    rw e (drop_take w n l)

pub drop_window : (l : List ℕ) (a w n : ℕ) → drop w (window l a n) ≡ window l (a + w) (n - w)
unfolding window
drop_window l a w n = drop_take w n (drop a l) ∙ ap (take (n - w)) (drop-drop w a l)
