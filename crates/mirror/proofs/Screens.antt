-- Two valid screens: the mask of the rows that differ between them, and what it carries. Where their widths differ every row does, since beyond
-- the lesser width one has zeros where the other has characters; so refusal 6 needs no law of `set_width`.
-- Assumes nothing.
use Prim.Native.Nat.{ℕ, zero, suc, ◌≤◌, ◌<◌}
use mathlib.Core.Path.{◌≡◌, refl, sym, ap, ◌∙◌, subst}
use mathlib.Core.Logic.{◌≢◌}
use mathlib.Core.Bool.{Bool, true, false, not, true≢false}
use mathlib.Core.List.{List, [], ◌∷◌}
use native.Mathlib.Omega.{arith}
use lib.Dec.{ltb}
use lib.ListN.{length, take, drop, replicate}
use borrow.Author.Tests.{ltb-true, ltb-false, eqb-true}
use Rattle.grid.specs.Screen.{Row, Screen, printable, valid_row, valid_screen, same_row, differing, number, touched_rows}
use Rattle.octets.specs.Test.{every, zerob}
use Rattle.grid.specs.Facts.{RowFacts, ScreenFacts}
use Rattle.octets.proofs.Bools.{and_left, and_right}
use Rattle.grid.proofs.TouchedLaws.{length_differing}
use Rattle.grid.proofs.Validity.{row_facts, screen_facts}
use Rattle.report.specs.Layout.{ALL-ROWS}
use Rattle.report.specs.Carried.{bits}
use Rattle.report.proofs.Carried.{Covers, same_row_is, differing_covers, all_cover, bits_number}

-- ---- two widths

-- a list that has zeros from v on has no characters up to w
clash : (v w : ℕ) (l : List ℕ) → v < w → v < length l → every zerob (drop v l) ≡ true → every printable (take w l) ≡ true → ⊥
unfolding every zerob printable
clash v w [] h k z i = omega arith
clash v zero (x ∷ l) h k z i = omega arith
clash zero (suc w) (x ∷ l) h k z i =
    let e : x ≡ 0 = eqb-true x 0 (and_left (zerob x) _ z) in
    let u : printable x ≡ true = and_left (printable x) _ i in
    true≢false (sym (rw e at u))
clash (suc v) (suc w) (x ∷ l) h k z i = clash v w l (omega arith) (omega arith) z (and_right (printable x) _ i)

narrower : (v w : ℕ) (x : Row) → v < w → w ≤ 80 → RowFacts v x → RowFacts w x → ⊥
narrower v w x h k s t = clash v w x.chars h (omega arith) s.chars_rest t.inside

no_row : (v w : ℕ) (x : Row) → v ≢ w → v ≤ 80 → w ≤ 80 → RowFacts v x → RowFacts w x → ⊥
no_row v w x h p q s t = go (ltb v w) refl
  where
    go : (b : Bool) → ltb v w ≡ b → ⊥
    go true e = narrower v w x (ltb-true v w e) q s t
    go false e = let l : w ≤ v = ltb-false v w e in narrower w v x (omega arith) p t s

module _ (v w : ℕ) (h : v ≢ w) (p : v ≤ 80) (q : w ≤ 80) where
  all_differ : (o n : List Row) → length o ≡ length n → every (valid_row v) o ≡ true → every (valid_row w) n ≡ true
      → differing o n ≡ replicate (length o) true
  unfolding differing every
  all_differ [] n l s t = refl
  all_differ (a ∷ o) [] l s t = absurd (omega arith)
  all_differ (a ∷ o) (b ∷ n) l s t =
      go (same_row a b) refl (all_differ o n (omega arith) (and_right (valid_row v a) _ s) (and_right (valid_row w b) _ t))
    where
      go : (x : Bool) → same_row a b ≡ x → differing o n ≡ replicate (length o) true
          → ◌≡◌ {A = List Bool} (not x ∷ differing o n) (true ∷ replicate (length o) true)
      go true e d =
          let u : valid_row v b ≡ true = rw (same_row_is a b e) at (and_left (valid_row v a) _ s) in
          absurd (no_row v w b h p q (row_facts v b u) (row_facts w b (and_left (valid_row w b) _ t)))
      go false e d = ap (λ (l : List Bool). true ∷ l) d

number_all : number (replicate 25 true) ≡ ALL-ROWS
unfolding number
number_all = refl

bits_all : bits 25 ALL-ROWS ≡ replicate 25 true
unfolding bits
bits_all = refl

-- ---- two screens

module _ (a b : Screen) (s : valid_screen a ≡ true) (t : valid_screen b ≡ true) where
  f : ScreenFacts a
  f = screen_facts a s

  g : ScreenFacts b
  g = screen_facts b t

  same_length : length a.rows ≡ length b.rows
  same_length = f.rows.count ∙ sym g.rows.count

  differing_25 : length (differing a.rows b.rows) ≡ 25
  differing_25 = length_differing a.rows b.rows same_length ∙ f.rows.count

  pub touched_all : a.head.width ≢ b.head.width → touched_rows a.rows b.rows ≡ ALL-ROWS
  unfolding touched_rows
  touched_all h =
      ap number
      (all_differ a.head.width b.head.width h f.head.width_to g.head.width_to a.rows b.rows same_length f.rows.valid g.rows.valid
      ∙ ap (λ (k : ℕ). replicate k true) f.rows.count)
      ∙ number_all

  pub covers_touched : Covers (bits 25 (touched_rows a.rows b.rows)) a.rows b.rows
  unfolding touched_rows
  covers_touched =
      let d = differing a.rows b.rows in
      let e : bits 25 (number d) ≡ d = subst (λ (k : ℕ). bits k (number d) ≡ d) differing_25 (bits_number d) in
      rw e (differing_covers a.rows b.rows same_length)

  pub covers_all : Covers (bits 25 ALL-ROWS) a.rows b.rows
  covers_all =
      let c = all_cover a.rows b.rows same_length in
      rw bits_all (subst (λ (k : ℕ). Covers (replicate k true) a.rows b.rows) f.rows.count c)
