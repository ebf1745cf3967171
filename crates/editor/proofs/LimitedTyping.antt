-- Typing with a limit: where it is the old call, where it changes nothing, and that a field stays as short as it was meant to be.
-- Assumes nothing.
use Prim.Native.Nat.{ℕ, ◌+◌, ◌-◌, ◌*◌, ◌%◌, ◌≤◌, ◌<◌, min}
use mathlib.Core.Path.{◌≡◌, refl, sym, ap, ◌∙◌}
use mathlib.Core.Bool.{Bool, true, false}
use mathlib.Core.List.{List, [], ◌∷◌, ◌++◌}
use mathlib.Core.Logic.{◌≢◌, ◌⊎◌, inl, inr, ⊎_elim}
use native.Mathlib.Omega.{arith}
use lib.Dec.{leb, eqb}
use lib.ListN.{length, take, drop, set, length-append, length-take, length-drop, length-set}
use borrow.Author.Tests.{ltb-true, ltb-false, leb-true, leb-false, eqb-true, lt-ltb, le-ltb, le-leb, lt-leb, eq-eqb, ne_eqb}
use Rattle.octets.specs.Answer.{is_refusal}
use Rattle.octets.specs.Refusals.{all_pass}
use Rattle.octets.specs.Test.{every, is_byte}
use Rattle.std.proofs.lemmas.Bool.{cond-true as pick}
use Rattle.octets.proofs.Bools.{and_left, cases}
use Rattle.octets.proofs.Found.{is_accepted}
use Rattle.grid.specs.Screen.{Screen, with_rows, with_bit, move_to, printable, touched_rows}
use Rattle.grid.specs.Conditions.{ValidRecord}
use Rattle.grid.specs.Facts.{ScreenFacts}
use Rattle.grid.specs.Record.{screen_of, touched_of, read_state}
use Rattle.grid.proofs.Conditions.{conditions_record}
use Rattle.grid.proofs.TouchedLaws.{touched_none}
use Rattle.line.specs.Line.{MAX-LOGICAL, start_of, end_of, row_text, whole_rows, content, index, reach}
use Rattle.line.specs.Splice.{splice}
use Rattle.values.specs.declared.cursor.Cursor.{Cursor}
use Rattle.line.proofs.KeptLine.{TextFacts, content_text}
use Rattle.line.proofs.SplicedLine.{spliced_content}
use Rattle.editor.specs.Typing.{type_char, type_within, type_limited}
use Rattle.editor.specs.Call.{limited_ok, rule, output, lengths, own, in_range, apply, submitted, answer, cr_left, cr_after, after_call, step}
use Rattle.editor.specs.Call.Call.{TypeChar, TypeLimited}
use Rattle.editor.specs.Outcome.{change_tests, changing}
use Rattle.editor.specs.LimitedTyping.{LimitedTyping}
use Rattle.editor.proofs.KeptTyping.{text_insert, text_set, text_add}
use Rattle.editor.proofs.KeptCall.{limit_most}
use Rattle.editor.proofs.Refusals.{change_none, going}
use Rattle.editor.proofs.Lists.{change_refused, screen_left_is, touched_left_is}

-- ---- on screens

-- the place after a column is in another column
next_column : (w x c : ℕ) → (w ≡ 40) ⊎ (w ≡ 80) → c < w → (x * w + c + 1) % w ≢ c
next_column w x c widths h e =
    ⊎_elim (λ (q : w ≡ 40). narrow (rw q at h) (rw q at e)) (λ (q : w ≡ 80). wide (rw q at h) (rw q at e)) widths
  where
    narrow : c < 40 → (x * 40 + c + 1) % 40 ≡ c → ⊥
    narrow h e = omega arith

    wide : c < 80 → (x * 80 + c + 1) % 80 ≡ c → ⊥
    wide h e = omega arith

after_index : (s : Screen) → ScreenFacts s → index s < MAX-LOGICAL → (index s + 1) % s.head.width ≢ s.head.cursor.col
unfolding index
after_index s f low e =
    let w : ℕ = s.head.width in
    let c : ℕ = s.head.cursor.col in
    let x : ℕ = s.head.cursor.row - start_of s s.head.cursor.row in
    let z : min MAX-LOGICAL (x * w + c) + 1 ≡ x * w + c + 1 = omega arith in
    next_column w x c f.head.widths f.head.col (ap (λ (k : ℕ). k % w) (sym z) ∙ e)

module _ (limit : ℕ) (s : Screen) (ch : ℕ) where
  -- a full content neither takes a character in nor grows
  still : limit ≤ length (content s) → (s.head.insert ≡ 1) ⊎ (length (content s) ≤ index s) → type_limited limit s ch ≡ s
  unfolding type_limited type_within
  still full way = cases (λ (x : Screen). x ≡ s) (printable ch) _ _ (λ v. go way) (λ v. refl)
    where
      is_full : leb limit (length (content s)) ≡ true
      is_full = le-leb limit (length (content s)) full

      go : (s.head.insert ≡ 1) ⊎ (length (content s) ≤ index s) → type_within limit s (content s) (index s) ch ≡ s
      go (inl on) = rw (eq-eqb s.head.insert 1 on, is_full)
      go (inr past) =
          cases (λ (x : Screen). x ≡ s) (eqb s.head.insert 1) _ _ (λ e. rw is_full)
          (λ e. rw (le-ltb (index s) (length (content s)) past, is_full))

  -- a character that stands inside is typed over, whatever the limit
  over : s.head.insert ≡ 0 → index s < length (content s) → type_limited limit s ch ≡ type_char s ch
  unfolding type_limited type_within type_char
  over off inside = rw (ne_eqb s.head.insert 1 (λ q. omega arith), lt-ltb (index s) (length (content s)) inside)

  -- and with room all is as without a limit
  roomy : limit ≤ MAX-LOGICAL → length (content s) < limit → type_limited limit s ch ≡ type_char s ch
  unfolding type_limited type_within type_char
  roomy most short = rw (lt-leb limit (length (content s)) short, lt-leb MAX-LOGICAL (length (content s)) (omega arith))

  module _ (f : ScreenFacts s) (most : limit ≤ MAX-LOGICAL) where
    text : TextFacts (content s) (index s)
    text = content_text s f

    -- ---- the cursor afterwards

    -- the content is full, and the character would not be typed over another
    Full : Type 0
    Full = (limit ≤ length (content s)) × ((s.head.insert ≡ 1) ⊎ (length (content s) ≤ index s))

    Tells : Screen → Type 0
    Tells x = x.head.cursor.col ≡ s.head.cursor.col → Full

    -- a text that is spliced in with the cursor one further
    goes : (cs : List ℕ) → index s < MAX-LOGICAL → Tells (splice s cs (index s + 1))
    unfolding splice move_to with_rows Tells
    goes cs low e = absurd (after_index s f low e)

    at_tells : Tells (type_within limit s (content s) (index s) ch)
    unfolding type_within Tells Full
    at_tells =
        cases Tells _ _ _
        (λ on.
        cases Tells _ _ _ (λ e q. (leb-true limit (length (content s)) e, inl (eqb-true s.head.insert 1 on)))
        (λ e. goes _ (omega (arith, text, leb-false limit (length (content s)) e))))
        (λ off.
        cases Tells _ _ _ (λ e. goes _ (omega (arith, text, ltb-true (index s) (length (content s)) e)))
        (λ past.
        cases Tells _ _ _ (λ e q. (leb-true limit (length (content s)) e, inr (ltb-false (index s) (length (content s)) past)))
        (λ e. goes _ (omega (arith, text, leb-false limit (length (content s)) e)))))

    tells : printable ch ≡ true → (type_limited limit s ch).head.cursor.col ≡ s.head.cursor.col
        → (limit ≤ length (content s)) × ((s.head.insert ≡ 1) ⊎ (length (content s) ≤ index s))
    unfolding type_limited Tells Full
    tells v = rw (pick (printable ch) (type_within limit s (content s) (index s) ch) s v) at_tells

    -- ---- the content afterwards

    module _ (few : length (content s) ≤ limit) (v : printable ch ≡ true) where
      Fits : Screen → Type 0
      Fits x = length (content x) ≤ limit

      inserted : length (content s) < limit → length (content (splice s (take (index s) (content s) ++ (ch ∷ drop (index s) (content s))) (index s + 1))) ≤ limit
      inserted short =
          let n : length (take (index s) (content s) ++ (ch ∷ drop (index s) (content s))) ≤ limit = simp (length-append, length-take, length-drop) (omega (arith, text)) in
          omega (arith, spliced_content s _ _ f (text_insert text ch v (omega arith)))

      replaced : index s < length (content s) → length (content (splice s (set (content s) (index s) ch) (index s + 1))) ≤ limit
      replaced inside =
          let n : length (set (content s) (index s) ch) ≤ limit = simp length-set (omega arith) in
          omega (arith, spliced_content s _ _ f (text_set text ch v inside))

      extended : length (content s) < limit → length (content (splice s (content s ++ (ch ∷ [])) (index s + 1))) ≤ limit
      extended short =
          let n : length (content s ++ (ch ∷ [])) ≤ limit = simp length-append (omega arith) in
          omega (arith, spliced_content s _ _ f (text_add text ch v (omega arith)))

      at_fits : length (content (type_within limit s (content s) (index s) ch)) ≤ limit
      unfolding type_within Fits
      at_fits =
          cases Fits _ _ _ (λ on. cases Fits _ _ _ (λ e. few) (λ e. inserted (leb-false limit (length (content s)) e)))
          (λ off.
          cases Fits _ _ _ (λ e. replaced (ltb-true (index s) (length (content s)) e))
          (λ past. cases Fits _ _ _ (λ e. few) (λ e. extended (leb-false limit (length (content s)) e))))

    typed_fits : length (content s) ≤ limit → length (content (type_limited limit s ch)) ≤ limit
    unfolding type_limited
    typed_fits few = cases (λ (x : Screen). length (content x) ≤ limit) (printable ch) _ _ (λ v. at_fits few v) (λ v. few)

-- ---- on records

-- the content does not look at the bit of (l)
content_bit : (s : Screen) (v : ℕ) → content (with_bit s v) ≡ content s
unfolding content index reach row_text whole_rows start_of end_of
content_bit s v = refl

after_typed : (ch limit : ℕ) (s : Screen) → after_call (TypeLimited ch limit) s ≡ with_bit (type_limited limit s ch) 0
unfolding after_call cr_after cr_left apply rule
after_typed ch limit s = refl

module _ (ch limit : ℕ) (l : List ℕ) where
  -- where the rules do the same, so do the calls
  same_call : 1 ≤ limit → limit ≤ MAX-LOGICAL → type_limited limit (screen_of l) ch ≡ type_char (screen_of l) ch
      → changing (TypeLimited ch limit) l ≡ changing (TypeChar ch) l
  unfolding changing change_tests lengths own output submitted answer step after_call cr_after apply rule limited_ok read_state
  same_call low high same = rw (le-leb 1 limit low, le-leb limit MAX-LOGICAL high, same)

  module _ (b : every is_byte l ≡ true) (v : ValidRecord l) where
    left : is_refusal (changing (TypeLimited ch limit) l).number ≡ false
        → screen_of (changing (TypeLimited ch limit) l).rec ≡ with_bit (type_limited limit (screen_of l) ch) 0
    left e = screen_left_is (TypeLimited ch limit) l b v e ∙ after_typed ch limit (screen_of l)

    touched : is_refusal (changing (TypeLimited ch limit) l).number ≡ false → type_limited limit (screen_of l) ch ≡ screen_of l
        → touched_of (changing (TypeLimited ch limit) l).rec ≡ 0
    touched e same =
        touched_left_is (TypeLimited ch limit) l b v e
        ∙ ap (λ (x : Screen). touched_rows (screen_of l).rows x.rows) (after_typed ch limit (screen_of l) ∙ ap (λ (x : Screen). with_bit x 0) same)
        ∙ touched_none (screen_of l).rows

    most_taken : is_refusal (changing (TypeLimited ch limit) l).number ≡ false → limit ≤ MAX-LOGICAL
    unfolding in_range own rule all_pass
    most_taken e = limit_most ch limit (and_left _ true (going (TypeLimited ch limit) l (change_none (TypeLimited ch limit) l (is_accepted _ e))).is_in_range)

    cursor_tells : is_refusal (changing (TypeLimited ch limit) l).number ≡ false → printable ch ≡ true → let s = screen_of l in
        (screen_of (changing (TypeLimited ch limit) l).rec).head.cursor ≡ s.head.cursor
        → (limit ≤ length (content s)) × ((s.head.insert ≡ 1) ⊎ (length (content s) ≤ index s))
    cursor_tells e p same =
        tells limit (screen_of l) ch (conditions_record l v).screen (most_taken e) p
        (sym (ap (λ (x : Screen). x.head.cursor.col) (left e)) ∙ ap (λ (c : Cursor). c.col) same)

    field_kept : length (content (screen_of l)) ≤ limit → length (content (screen_of (changing (TypeLimited ch limit) l).rec)) ≤ limit
    field_kept few = go (is_refusal (changing (TypeLimited ch limit) l).number) refl
      where
        go : (r : Bool) → is_refusal (changing (TypeLimited ch limit) l).number ≡ r → length (content (screen_of (changing (TypeLimited ch limit) l).rec)) ≤ limit
        go true e = rw (change_refused (TypeLimited ch limit) l e) few
        go false e = rw (left e, content_bit (type_limited limit (screen_of l) ch) 0) (typed_fits limit (screen_of l) ch (conditions_record l v).screen (most_taken e) few)

-- ---- the promise

pub at_255 : (ch : ℕ) (l : List ℕ) → changing (TypeLimited ch 255) l ≡ changing (TypeChar ch) l
unfolding changing change_tests lengths own output submitted answer step after_call cr_after apply rule limited_ok type_char
at_255 ch l = refl

pub limited_typing : LimitedTyping
limited_typing =
    record {
      at_255 = at_255;
      full = λ ch limit l b v e many way.
          let same = still limit (screen_of l) ch many way in
          (left ch limit l b v e ∙ ap (λ (s : Screen). with_bit s 0) same, touched ch limit l b v e same);
      typed_over = λ ch limit l low high off inside. same_call ch limit l low high (over limit (screen_of l) ch off inside);
      with_room = λ ch limit l low high short. same_call ch limit l low high (roomy limit (screen_of l) ch high short);
      cursor_tells = cursor_tells;
      field_kept = field_kept;
    }
