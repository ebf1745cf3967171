-- The strip call is refused exactly by document 01's conditions, in their order, and does what the rules say otherwise.
-- Assumes nothing.
use Prim.Native.Nat.{ℕ, ◌+◌, ◌-◌, ◌*◌, ◌≤◌, ◌<◌}
use mathlib.Core.Path.{◌≡◌, sym, ap, ◌∙◌, refl}
use mathlib.Core.Bool.{Bool, true, false, true≢false, not-eq-not}
use mathlib.Core.List.{List}
use mathlib.Core.Logic.{inl, inr, ⊎_elim, ◌≢◌}
use native.Mathlib.Omega.{arith}
use lib.Dec.{leb, eqb}
use lib.ListN.{length, get_or, drop, length-drop}
use lib.Seq.{get_or-drop}
use borrow.Author.Tests.{leb-true, leb-false, lt-leb, eqb-true, eqb-false, ne_eqb}
use Rattle.std.specs.Prelude.{if◌then◌else◌}
use Rattle.octets.specs.Answer.{refused, Written, unless, wrote}
use Rattle.octets.specs.Refusals.{first_of}
use Rattle.octets.specs.Test.{every, zerob}
use Rattle.octets.specs.Width.{IsWidth, widthb}
use Rattle.octets.proofs.Bools.{and_left, and_right, and_false, left_false, and_fails, every_at, some_fails}
use Rattle.octets.proofs.WidthLaws.{width_cases, cases_width}
use Rattle.octets.proofs.PartLaws.{length_window, get_d_window}
use Rattle.octets.proofs.Found.{Fails, First, Found, found, found_none, answered}
use Rattle.octets.proofs.Found.Fails.{here, there}
use Rattle.octets.proofs.Found.First.{now, later}
use Rattle.keys.specs.Keys.{TABLE_SIZE, KEY_SIZE, MACRO_LEN, length_at, macro_at, valid_key, ten_keys, tableb, macros_of, lengths_of, strip, fits, strip_tests, stripping}
use Rattle.keys.specs.Refusals.{BadKey, StripRefused, StrippingAnswers}
use Rattle.keys.specs.Refusals.StripRefused.{table_length, output_length, layout, width_argument, offset_argument}
use Rattle.keys.proofs.TableLaws.{ten_at, length_ten}
use Rattle.keys.proofs.CallLaws.{lengthsb, rangeb, fits_room, accepted, strip_ordered, length_strip}

-- ---- condition 1

fits_fails : (width len : ℕ) → fits width len ≡ false → IsWidth width × (len ≢ width)
unfolding fits
fits_fails width len e = go (widthb width) refl e
  where
    go : (w : Bool) → widthb width ≡ w → (if w then eqb len width else true) ≡ false → IsWidth width × (len ≡ width → ⊥)
    go true ew q = (width_cases width ew, eqb-false _ _ q)
    go false ew q = absurd (true≢false q)

-- ---- condition 2

module _ (t : List ℕ) (len : length t ≡ TABLE_SIZE) where
  -- unused bytes
  rest_at : (k n i : ℕ) → k < 10 → n + i < MACRO_LEN → get_or (drop n (macro_at t k)) i 0 ≡ get_or t (KEY_SIZE * k + 1 + (n + i)) 0
  unfolding macro_at
  rest_at k n i h p = get_or-drop n _ i 0 ∙ get_d_window t (KEY_SIZE * k + 1) MACRO_LEN (n + i) p

  length_rest : (k n : ℕ) → k < 10 → length (drop n (macro_at t k)) ≡ MACRO_LEN - n
  unfolding macro_at
  length_rest k n h = length-drop n _ ∙ ap (λ (m : ℕ). m - n) (length_window t (KEY_SIZE * k + 1) MACRO_LEN (omega arith))

  key_fails : (k : ℕ) → k < 10 → valid_key t k ≡ false → BadKey t k
  unfolding valid_key length_at zerob
  key_fails k h e =
      ⊎_elim (λ q. inl (leb-false _ _ q))
      (λ q.
      let n : ℕ = get_or t (KEY_SIZE * k) 0 in
      let few : n ≤ MACRO_LEN = leb-true _ _ q.0 in
      let r = some_fails zerob (drop n (macro_at t k)) 0 q.1 in
      let l = length_rest k n h in
      let p : n + r.0 < MACRO_LEN = omega (arith, r.1) in
      inr (n + r.0, omega arith, p, λ z. eqb-false _ _ r.2 (rest_at k n r.0 h p ∙ z)))
      (and_fails _ _ e)

  key_passes : (k : ℕ) → k < 10 → valid_key t k ≡ true → BadKey t k → ⊥
  unfolding valid_key length_at zerob
  key_passes k h e (inl q) =
      let few : get_or t (KEY_SIZE * k) 0 ≤ MACRO_LEN = leb-true _ _ (and_left _ _ e) in
      omega arith
  key_passes k h e (inr (i, lo, hi, ne)) =
      let n : ℕ = get_or t (KEY_SIZE * k) 0 in
      let l = length_rest k n h in
      let same : n + (i - n) ≡ i = omega arith in
      let rest : every zerob (drop n (macro_at t k)) ≡ true = and_right (leb n MACRO_LEN) _ e in
      let z = every_at zerob (drop n (macro_at t k)) (i - n) 0 rest (omega arith) in
      ne (ap (λ (j : ℕ). get_or t (KEY_SIZE * k + 1 + j) 0) (sym same) ∙ sym (rest_at k n (i - n) h (omega arith)) ∙ eqb-true _ _ z)

  table_fails : tableb t ≡ false → (k : ℕ) × (k < 10) × BadKey t k
  unfolding tableb
  table_fails e =
      ⊎_elim (λ q. absurd (eqb-false _ _ q len))
      (λ q.
      let r = some_fails (valid_key t) ten_keys 0 q.1 in
      let h : r.0 < 10 = omega (arith, r.1, length_ten) in
      (r.0, h, key_fails r.0 h (ap (valid_key t) (sym (ten_at r.0 h)) ∙ r.2)))
      (and_fails _ _ e)

  table_passes : tableb t ≡ true → (k : ℕ) → k < 10 → ¬ BadKey t k
  unfolding tableb
  table_passes e k h bad =
      let all = and_right (eqb (length t) TABLE_SIZE) (every (valid_key t) ten_keys) e in
      key_passes k h (ap (valid_key t) (sym (ten_at k h)) ∙ every_at (valid_key t) ten_keys k 0 all (omega (arith, length_ten))) bad

bad_table : (t : List ℕ) (k : ℕ) → k < 10 → BadKey t k → tableb t ≡ false
unfolding tableb
bad_table t k h bad =
    (not-eq-not {b = false}).0 (λ e. table_passes t (eqb-true _ _ (and_left (eqb (length t) TABLE_SIZE) (every (valid_key t) ten_keys) e)) e k h bad)

-- ---- the call

module _ (t : List ℕ) (offset width : ℕ) (out : List ℕ) where
  lengths_fail : lengthsb t width out ≡ false → StripRefused t offset width out 1
  lengths_fail e =
      ⊎_elim (λ q. table_length (eqb-false _ _ q)) (λ q. let f = fits_fails width (length out) q.1 in output_length f.0 f.1)
      (and_fails (eqb (length t) TABLE_SIZE) (fits width (length out)) e)

  range_fails : rangeb offset width ≡ false → StripRefused t offset width out 3
  range_fails e =
      ⊎_elim (λ q. width_argument (λ w. true≢false (sym (cases_width width w) ∙ q))) (λ q. offset_argument (leb-false _ _ q.1))
      (and_fails (widthb width) (leb offset 9) e)

  sound : (k : ℕ) → First (strip_tests t offset width out) k → StripRefused t offset width out k
  unfolding strip_tests
  sound k (now e) = lengths_fail e
  sound k (later p (now e)) =
      let bad = table_fails t (eqb-true _ _ (and_left (eqb (length t) TABLE_SIZE) (fits width (length out)) p)) e in
      layout bad.0 bad.1 bad.2
  sound k (later p (later q (now e))) = range_fails e
  sound k (later p (later q (later _ f))) = elim f [ ]

  whole : (k : ℕ) → StripRefused t offset width out k → Fails (strip_tests t offset width out) k
  unfolding strip_tests
  whole k (table_length n) = here (left_false (eqb (length t) TABLE_SIZE) _ (ne_eqb _ _ n))
  whole k (output_length w n) =
      here (and_false (eqb (length t) TABLE_SIZE) _ ((not-eq-not {b = false}).0 (λ e. n (fits_room width (length out) (cases_width width w) e))))
  whole k (layout i h bad) = there (here (bad_table t i h bad))
  whole k (width_argument n) = there (there (here (left_false (widthb width) _ ((not-eq-not {b = false}).0 (λ e. n (width_cases width e))))))
  whole k (offset_argument h) = there (there (here (and_false (widthb width) _ (lt-leb _ _ h))))

  strip_found : Found (StripRefused t offset width out) (first_of (strip_tests t offset width out))
  strip_found = found _ _ (strip_ordered t offset width out) sound whole

  pub stripping_answers : StrippingAnswers t offset width out
  unfolding stripping unless wrote
  stripping_answers =
      let text : List ℕ = strip (macros_of t) (lengths_of t) offset width in
      let long : first_of (strip_tests t offset width out) ≡ 0 → length text ≡ width =
      λ e. length_strip (macros_of t) (lengths_of t) offset width (accepted t offset width out e).widths in
      let a =
      answered (λ (o : Written). o.number) strip_found (wrote text out) (record { number = refused _; bytes = out })
      (λ e. let k = accepted t offset width out e in omega (arith, long e)) refl in
      record {
        number = a.refuses;
        kept = λ h. ap (λ (o : Written). o.bytes) (a.kept h);
        done = a.done;
        answers = λ h. ap (λ (o : Written). o.number) (a.done h) ∙ long (found_none strip_found (a.refuses.accepted.0 h));
      }
