-- `cr_left` and `splits`: the bit of document 02, (l), after a print of bs, and what the checked print refuses. h is the head of the record l.
-- Assumes nothing.
use Prim.Native.Nat.{ℕ, zero, suc, ◌+◌, ◌-◌}
use mathlib.Core.Path.{◌≡◌, refl, sym, ap, ◌∙◌}
use mathlib.Core.Bool.{Bool, true, false, ◌&&◌}
use mathlib.Core.List.{List, [], ◌∷◌}
use native.Mathlib.Decide.{ℕ_discrete}
use native.Mathlib.Omega.{arith}
use lib.Dec.{eqb}
use lib.ListN.{length, get_or}
use mir.Val.{bool_byte}
use borrow.Author.Tests.{eq-eqb, ne_eqb}
use Rattle.std.proofs.Common.{Some, None}
use Rattle.std.proofs.lemmas.Option.{slice_get_within, get_or_from_slice_get, slice_get-get_or}
use Rattle.std.specs.List.{slice_get, starts_with}
use Rattle.std.specs.Prelude.{if◌then◌else◌}
use Rattle.grid.specs.Record.{head_of, screen_of}
use Rattle.grid.specs.declared.head.Head.{Head}
use Rattle.editor.specs.Print.{splits}
use Rattle.editor.specs.Call.{last_cr}

-- ---- `cr_left`

-- the last byte decides
last_byte : (bs : List ℕ) (i cr : ℕ) → i + 1 ≡ length bs → last_cr cr bs ≡ (if eqb (get_or bs i 0) 13 then 1 else 0)
unfolding last_cr
last_byte [] i cr h = absurd (omega arith)
last_byte (b ∷ []) zero cr h = refl
last_byte (b ∷ []) (suc i) cr h = absurd (omega arith)
last_byte (b ∷ c ∷ bs) zero cr h = absurd (omega arith)
last_byte (b ∷ c ∷ bs) (suc i) cr h = last_byte (c ∷ bs) i (if eqb b 13 then 1 else 0) (omega arith)

-- b is the last byte, k the bit that the code makes of it
pub byte_decides : (bs : List ℕ) (cr b k : ℕ) → Some b ≡ slice_get bs (length bs - 1) → k ≡ bool_byte (eqb b 13) → k ≡ last_cr cr bs
byte_decides bs cr b k is e =
    let some = slice_get_within bs (length bs - 1) b (sym is) in
    let last = get_or_from_slice_get bs (length bs - 1) b 0 (sym is) in
    e ∙ as_number (eqb b 13) ∙ ap (λ (x : ℕ). if eqb x 13 then 1 else 0) (sym last) ∙ sym (last_byte bs (length bs - 1) cr (omega arith))
  where
    as_number : (t : Bool) → bool_byte t ≡ (if t then 1 else 0)
    as_number true = refl
    as_number false = refl

-- there is no last byte
pub bit_stays : (l bs : List ℕ) (h : Head) → h ≡ head_of l → None ≡ slice_get bs (length bs - 1) → h.cr ≡ last_cr (head_of l).cr bs
unfolding last_cr
bit_stays l [] h is e = ap (λ (x : Head). x.cr) is
bit_stays l (b ∷ bs) h is e = cc (slice_get-get_or (b ∷ bs) (length (b ∷ bs) - 1) 0 (omega arith))

-- ---- `splits`: t is what `starts_with` has answered

module _ (l bs : List ℕ) (t : Bool) (is : t ≡ starts_with eqb bs (10 ∷ [])) where
  begins : t ≡ eqb (get_or bs 0 0) 10
  begins = is ∙ first bs
    where
      first : (cs : List ℕ) → starts_with eqb cs (10 ∷ []) ≡ eqb (get_or cs 0 0) 10
      first [] = refl
      first (c ∷ cs) = go (ℕ_discrete c 10)
        where
          go : Dec (c ≡ 10) → eqb 10 c && true ≡ eqb c 10
          go (yes e) = rw (eq-eqb 10 c (sym e), eq-eqb c 10 e)
          go (no ne) = rw (ne_eqb 10 c (λ e. ne (sym e)), ne_eqb c 10 ne)

  pub splits_ten : (h : Head) → h ≡ head_of l → t ≡ true → eqb h.cr 1 ≡ splits (screen_of l) bs
  unfolding splits
  splits_ten h eh e = rw (sym begins ∙ e, eh)

  pub splits_else : t ≡ false → t ≡ splits (screen_of l) bs
  unfolding splits
  splits_else e = rw (sym begins ∙ e) e
