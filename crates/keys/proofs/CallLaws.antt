-- The strip call: what is so where there is no refusal, and what it answers and leaves.
-- Assumes nothing.
use Prim.Native.Nat.{ℕ, ◌/◌, ◌≤◌}
use mathlib.Core.Path.{◌≡◌, refl, sym, ap, ◌∙◌}
use mathlib.Core.Bool.{Bool, true, ◌&&◌}
use mathlib.Core.List.{List}
use mathlib.Core.Logic.{◌⊎◌, ⊎_elim}
use native.Mathlib.Omega.{arith}
use lib.Dec.{leb, eqb}
use lib.ListN.{length}
use borrow.Author.Tests.{leb-true, eqb-true}
use Rattle.octets.specs.declared.answer.Refusal.{Refusal}
use Rattle.octets.specs.Answer.{refused, number_of, wrote, Writes}
use Rattle.octets.specs.Refusals.{first_of, all_pass, place_in, order}
use Rattle.octets.specs.Width.{widthb}
use Rattle.octets.specs.Part.{write}
use Rattle.std.proofs.lemmas.Bool.{cond-true as pick}
use Rattle.octets.proofs.Bools.{and_left, and_right}
use Rattle.octets.proofs.Found.{ordered, none_fails, unless_err, unless_ok}
use Rattle.octets.proofs.WidthLaws.{width_cases}
use Rattle.octets.proofs.PartLaws.{write_front}
use Rattle.keys.specs.Keys.{TABLE_SIZE, tableb, macros_of, lengths_of, strip, fits, stripping, strip_tests}
use Rattle.keys.proofs.StripLaws.{length_slots}

-- ---- what is so where there is no refusal

pub record Accepted (offset width : ℕ) (out : List ℕ) : Type 0 where
  pub widths : (width ≡ 40) ⊎ (width ≡ 80)
  pub room : length out ≡ width
  pub offset_to : offset ≤ 9

abbrev pub lengthsb : List ℕ → ℕ → List ℕ → Bool
lengthsb t width out = eqb (length t) TABLE_SIZE && fits width (length out)

abbrev pub rangeb : ℕ → ℕ → Bool
rangeb offset width = widthb width && leb offset 9

pub fits_room : (width len : ℕ) → widthb width ≡ true → fits width len ≡ true → len ≡ width
unfolding fits
fits_room width len w e = eqb-true len width (sym (pick (widthb width) (eqb len width) true w) ∙ e)

module _ (t : List ℕ) (offset width : ℕ) (out : List ℕ) where
  passed : lengthsb t width out ≡ true → rangeb offset width ≡ true → Accepted offset width out
  passed lengths range =
      let w : widthb width ≡ true = and_left (widthb width) (leb offset 9) range in
      record {
        widths = width_cases width w;
        room = fits_room width (length out) w (and_right (eqb (length t) TABLE_SIZE) (fits width (length out)) lengths);
        offset_to = leb-true _ _ (and_right (widthb width) (leb offset 9) range);
      }

  pub strip_ordered : ordered 0 (strip_tests t offset width out) ≡ true
  unfolding strip_tests ordered place_in order
  strip_ordered = refl

  pub accepted : first_of (strip_tests t offset width out) ≡ 0 → Accepted offset width out
  unfolding strip_tests all_pass
  accepted e =
      let all = none_fails 0 (strip_tests t offset width out) strip_ordered e in
      let rest = and_right (lengthsb t width out) _ all in
      passed (and_left (lengthsb t width out) _ all) (and_left (rangeb offset width) true (and_right (tableb t) _ rest))

-- ---- `keys_strip`: e is why `accepted` refuses, and `none` that it does not

-- a width's slots fill it
pub length_strip : (macros : List (List ℕ)) (lengths : List ℕ) (offset width : ℕ) → (width ≡ 40) ⊎ (width ≡ 80)
    → length (strip macros lengths offset width) ≡ width
unfolding strip
length_strip macros lengths offset width c =
    length_slots macros lengths offset (width / 8) ∙ ⊎_elim (λ (q : width ≡ 40). omega arith) (λ (q : width ≡ 80). omega arith) c

module _ (t : List ℕ) (offset width : ℕ) (out : List ℕ) where
  pub strip_refused : (e : Refusal) → number_of e ≡ first_of (strip_tests t offset width out) → Writes (stripping t offset width out) (refused (number_of e)) out
  unfolding stripping
  strip_refused e is = unless_err (first_of (strip_tests t offset width out)) out _ e is

  module _ (none : 0 ≡ first_of (strip_tests t offset width out)) where
    known : Accepted offset width out
    known = accepted t offset width out (sym none)

    pub strip_may : (offset ≤ 9) × (width ≤ length out)
    strip_may = (known.offset_to, omega (arith, known.room))

    pub strip_done : (m s : List ℕ) (macros : List (List ℕ)) (lengths : List ℕ) → s ≡ t → macros ≡ macros_of s → lengths ≡ lengths_of s
        → m ≡ write out 0 (strip macros lengths offset width) → Writes (stripping t offset width out) width m
    unfolding stripping wrote
    strip_done m s macros lengths es em el e =
        let text : List ℕ = strip (macros_of t) (lengths_of t) offset width in
        let len : length text ≡ width = length_strip (macros_of t) (lengths_of t) offset width known.widths in
        unless_ok _ out (wrote text out) none width m
        (record {
          number = sym len;
          left = e ∙ ap (λ (x : List (List ℕ)). write out 0 (strip x lengths offset width)) (em ∙ ap macros_of es)
              ∙ ap (λ (x : List ℕ). write out 0 (strip (macros_of t) x offset width)) (el ∙ ap lengths_of es)
              ∙ write_front out text (omega (arith, known.room));
        })
