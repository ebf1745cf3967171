-- Of a call's conditions of refusal the first that holds: what the call then answers, and how the tests find it.
-- Assumes nothing.
use Prim.Native.Nat.{ℕ, suc, ◌≤◌, ◌<◌}
use mathlib.Core.Path.{◌≡◌, refl, sym, ap, ◌∙◌}
use mathlib.Core.Bool.{Bool, true, false, ◌&&◌, true≢false, not-eq-not}
use mathlib.Core.List.{List, [], ◌∷◌, ◌++◌}
use mathlib.Core.Logic.{◌≢◌, ◌⊎◌, inl, inr, ⊎_elim}
use native.Mathlib.Omega.{arith}
use native.Mathlib.Nat.{eq-or-lt_of_le}
use lib.Dec.{leb, ltb, eqb}
use lib.ListN.{length, get_or}
use borrow.Author.Tests.{leb-true, ltb-true, eqb-true, eqb-false, eq-eqb, ne_eqb, ltb-false, le-ltb, lt-ltb, le-leb}
use Rattle.std.specs.Prelude.{if◌then◌else◌}
use Rattle.octets.specs.Answer.{refused, number_of, Written, Writes, unless, is_refusal}
use Rattle.octets.specs.declared.answer.Refusal.{Refusal}
use Rattle.octets.specs.declared.answer.Refusal.TheVariants.{WrongLength, BrokenLayout, OutOfRange, SpentSerial, BrokenReport, WidthWithoutRows, LongInput, SplitLineEnd}
use Rattle.octets.specs.Refusals.{order, place_in, Before, Refuses, first_of, all_pass, or_else}
use Rattle.std.proofs.lemmas.Bool.{cond-true as pick, cond-false as skip}
use Rattle.octets.proofs.Bools.{and_left, and_right, and_both, cases}

-- ---- the order

-- what stands at a place is what has that place
place_at : (xs : List ℕ) (k : ℕ) → place_in xs k < length xs → get_or xs (place_in xs k) 0 ≡ k
unfolding place_in
place_at [] k h = absurd (omega arith)
place_at (x ∷ xs) k h =
    let rest = place_at xs k in
    cases (λ (i : ℕ). i < length (x ∷ xs) → get_or (x ∷ xs) i 0 ≡ k) (eqb x k) 0 (suc (place_in xs k)) (λ e q. eqb-true x k e) (λ e q. rest (omega arith)) h

-- how many refusals there are
abbrev pub MOST : ℕ
MOST = 14

place_same : (j k : ℕ) → place_in order j ≡ place_in order k → place_in order k < MOST → j ≡ k
unfolding order
place_same j k e h = sym (place_at order j (omega arith)) ∙ ap (λ (i : ℕ). get_or order i 0) e ∙ place_at order k (omega arith)

no_place : place_in order 0 ≡ MOST
unfolding place_in order
no_place = refl

placed : (k : ℕ) → place_in order k < MOST → k ≢ 0
placed k h e = let p : place_in order k ≡ MOST = ap (place_in order) e ∙ no_place in omega arith

-- ---- the first condition that holds, of C

-- r is the number of a refusal that is looked for before j, or j
pub record Within (j r : ℕ) : Type 0 where
  pub some : r ≢ 0
  pub place : place_in order r < MOST
  pub to : place_in order r ≤ place_in order j

-- r is the number of the first that holds, 0 if none does
pub record Found (C : ℕ → Type 0) (r : ℕ) : Type 0 where
  pub holds : r ≢ 0 → C r
  pub first : (j : ℕ) → C j → Within j r

pub found_none : {C : ℕ → Type 0} {r : ℕ} → Found C r → ((k : ℕ) → ¬ C k) → r ≡ 0
found_none {r = r} f none = eqb-true r 0 ((not-eq-not {b = true}).0 (λ e. none r (f.holds (eqb-false r 0 e))))

-- o is what a call answers and leaves: x if none holds, else y, the refusal
pub record Answered {A : Type 0} (number : A → ℕ) (C : ℕ → Type 0) (x y o : A) : Type 0 where
  pub refuses : Refuses C (number o)
  pub kept : refused 1 ≤ number o → o ≡ y
  pub done : number o < refused 1 → o ≡ x

module _ {A : Type 0} (number : A → ℕ) {C : ℕ → Type 0} {r : ℕ} (f : Found C r) (x y : A) (small : r ≡ 0 → number x < refused 0)
    (turned : number y ≡ refused r) where
  refuses : Refuses C (number (if eqb r 0 then x else y))
  refuses =
      record {
        refusal = λ k. (
          cases (λ (o : A). number o ≡ refused k → C k × ((j : ℕ) → Before j k → ¬ C j)) (eqb r 0) x y
              (λ e q. let s = small (eqb-true r 0 e) in absurd (omega arith))
              (λ e q.
              let is : r ≡ k = omega arith in
              rw (← is) (f.holds (eqb-false r 0 e), λ j h c. let w = f.first j c in omega arith)),
          λ c.
              let w = f.first k c.0 in
              ap number (skip (eqb r 0) x y (ne_eqb r 0 w.some)) ∙ turned
              ∙ ⊎_elim (λ (is : place_in order r ≡ place_in order k). ap refused (place_same r k is (omega arith)))
              (λ (h : place_in order r < place_in order k). absurd (c.1 r h (f.holds w.some))) (eq-or-lt_of_le w.to),
        );
        accepted = (
          cases (λ (o : A). number o < refused 1 → (k : ℕ) → ¬ C k) (eqb r 0) x y (λ e h k c. (f.first k c).some (eqb-true r 0 e))
              (λ e h k c. let n = eqb-false r 0 e in omega arith),
          λ none.
              cases (λ (o : A). number o < refused 1) (eqb r 0) x y (λ e. let s = small (eqb-true r 0 e) in omega arith)
              (λ e. absurd (none r (f.holds (eqb-false r 0 e)))),
        );
      }

  pub answered : Answered number C x y (if eqb r 0 then x else y)
  answered =
      record {
        refuses = refuses;
        kept =
            cases (λ (o : A). refused 1 ≤ number o → o ≡ y) (eqb r 0) x y (λ e h. let s = small (eqb-true r 0 e) in absurd (omega arith)) (λ e h. refl);
        done =
            cases (λ (o : A). number o < refused 1 → o ≡ x) (eqb r 0) x y (λ e h. refl) (λ e h. let z = eqb-false r 0 e in absurd (omega arith));
      }

-- ---- tests

-- a test of number k fails, and it is the first that fails
pub data Fails : List (ℕ × Bool) → ℕ → Type 0 where
  here : {k : ℕ} {b : Bool} {ts : List (ℕ × Bool)} → b ≡ false → Fails ((k, b) ∷ ts) k
  there : {k j : ℕ} {b : Bool} {ts : List (ℕ × Bool)} → Fails ts j → Fails ((k, b) ∷ ts) j

pub data First : List (ℕ × Bool) → ℕ → Type 0 where
  now : {k : ℕ} {b : Bool} {ts : List (ℕ × Bool)} → b ≡ false → First ((k, b) ∷ ts) k
  later : {k j : ℕ} {b : Bool} {ts : List (ℕ × Bool)} → b ≡ true → First ts j → First ((k, b) ∷ ts) j

-- no test, no failure

none_at : {A : Type 0} {ts : List (ℕ × Bool)} {k : ℕ} → First ts k → ts ≡ [] → A
none_at (now e) q = absurd (let h = ap length q in omega arith)
none_at (later e f) q = absurd (let h = ap length q in omega arith)

pub none_first : {A : Type 0} {k : ℕ} → First [] k → A
none_first f = none_at f refl

-- the tests stand in the order, from place p on
unfoldable pub ordered : ℕ → List (ℕ × Bool) → Bool
ordered p [] = true
ordered p ((k, b) ∷ ts) = leb p (place_in order k) && ltb (place_in order k) MOST && ordered (place_in order k) ts

first_fails : (ts : List (ℕ × Bool)) → first_of ts ≢ 0 → First ts (first_of ts)
unfolding first_of
first_fails [] n = absurd (n refl)
first_fails ((k, true) ∷ ts) n = later refl (first_fails ts n)
first_fails ((k, false) ∷ ts) n = now refl

record From (p r : ℕ) : Type 0 where
  from : p ≤ place_in order r
  place : place_in order r < MOST

module _ (p k : ℕ) (b : Bool) (ts : List (ℕ × Bool)) (o : ordered p ((k, b) ∷ ts) ≡ true) where
  both : leb p (place_in order k) && ltb (place_in order k) MOST ≡ true
  unfolding ordered
  both = and_left (leb p (place_in order k) && ltb (place_in order k) MOST) (ordered (place_in order k) ts) o

  ordered_here : From p k
  ordered_here =
      record {
        from = leb-true _ _ (and_left (leb p (place_in order k)) (ltb (place_in order k) MOST) both);
        place = ltb-true _ _ (and_right (leb p (place_in order k)) (ltb (place_in order k) MOST) both);
      }

  ordered_rest : ordered (place_in order k) ts ≡ true
  unfolding ordered
  ordered_rest = and_right (leb p (place_in order k) && ltb (place_in order k) MOST) (ordered (place_in order k) ts) o

-- parts of such a list

ordered_zero : (p : ℕ) (ts : List (ℕ × Bool)) → ordered p ts ≡ true → ordered 0 ts ≡ true
unfolding ordered
ordered_zero p [] o = refl
ordered_zero p ((k, b) ∷ ts) o =
    let h = ordered_here p k b ts o in
    and_both _ _ (and_both _ _ (le-leb 0 (place_in order k) (omega arith)) (lt-ltb (place_in order k) MOST h.place)) (ordered_rest p k b ts o)

pub ordered_left : (p : ℕ) (xs ys : List (ℕ × Bool)) → ordered p (xs ++ ys) ≡ true → ordered p xs ≡ true
unfolding ordered
ordered_left p [] ys o = refl
ordered_left p ((k, b) ∷ xs) ys o = and_both _ _ (both p k b (xs ++ ys) o) (ordered_left (place_in order k) xs ys (ordered_rest p k b (xs ++ ys) o))

pub ordered_right : (p : ℕ) (xs ys : List (ℕ × Bool)) → ordered p (xs ++ ys) ≡ true → ordered 0 ys ≡ true
ordered_right p [] ys o = ordered_zero p ys o
ordered_right p ((k, b) ∷ xs) ys o = ordered_right (place_in order k) xs ys (ordered_rest p k b (xs ++ ys) o)

fails_from : (p : ℕ) (ts : List (ℕ × Bool)) {j : ℕ} → ordered p ts ≡ true → Fails ts j → From p j
fails_from p [] {j = j} o x = elim x [ ]
fails_from p ((k, b) ∷ ts) o (here e) = ordered_here p k b ts o
fails_from p ((k, b) ∷ ts) o (there f) =
    let h = ordered_here p k b ts o in
    let m = fails_from (place_in order k) ts (ordered_rest p k b ts o) f in
    record { from = omega arith; place = m.place }

first_within : (p : ℕ) (ts : List (ℕ × Bool)) {j : ℕ} → ordered p ts ≡ true → Fails ts j → Within j (first_of ts)
unfolding first_of
first_within p [] {j = j} o x = elim x [ ]
first_within p ((k, false) ∷ ts) o (here e) = let h = ordered_here p k false ts o in record { some = placed k h.place; place = h.place; to = omega arith }
first_within p ((k, true) ∷ ts) o (here e) = absurd (true≢false e)
first_within p ((k, false) ∷ ts) o (there f) =
    let h = ordered_here p k false ts o in
    let m = fails_from (place_in order k) ts (ordered_rest p k false ts o) f in
    record { some = placed k h.place; place = h.place; to = m.from }
first_within p ((k, true) ∷ ts) o (there f) = first_within (place_in order k) ts (ordered_rest p k true ts o) f

-- THE LAW of the search: tests in their order that fail exactly by the conditions find the first that holds
pub found : (C : ℕ → Type 0) (ts : List (ℕ × Bool)) → ordered 0 ts ≡ true → ((k : ℕ) → First ts k → C k) → ((k : ℕ) → C k → Fails ts k)
    → Found C (first_of ts)
found C ts o sound whole =
    record { holds = λ n. sound _ (first_fails ts n); first = λ j c. first_within 0 ts o (whole j c) }

-- ---- two lists of tests

pub fails_left : {xs : List (ℕ × Bool)} (ys : List (ℕ × Bool)) {k : ℕ} → Fails xs k → Fails (xs ++ ys) k
fails_left ys (here e) = here e
fails_left ys (there f) = there (fails_left ys f)

pub fails_right : (xs : List (ℕ × Bool)) {ys : List (ℕ × Bool)} {k : ℕ} → Fails ys k → Fails (xs ++ ys) k
fails_right [] f = f
fails_right ((k, b) ∷ xs) f = there (fails_right xs f)

pub first_split : (xs : List (ℕ × Bool)) {ys : List (ℕ × Bool)} {k : ℕ} → First (xs ++ ys) k → First xs k ⊎ First ys k
first_split [] f = inr f
first_split ((k, b) ∷ xs) (now e) = inl (now e)
first_split ((k, b) ∷ xs) (later e f) = ⊎_elim (λ g. inl (later e g)) inr (first_split xs f)

-- ---- no test fails

pub none_fails : (p : ℕ) (ts : List (ℕ × Bool)) → ordered p ts ≡ true → first_of ts ≡ 0 → all_pass ts ≡ true
unfolding first_of all_pass
none_fails p [] o e = refl
none_fails p ((k, true) ∷ ts) o e = none_fails (place_in order k) ts (ordered_rest p k true ts o) e
none_fails p ((k, false) ∷ ts) o e = absurd (placed k (ordered_here p k false ts o).place e)

pub all_passed : (ts : List (ℕ × Bool)) → all_pass ts ≡ true → first_of ts ≡ 0
unfolding first_of all_pass
all_passed [] e = refl
all_passed ((k, true) ∷ ts) e = all_passed ts e
all_passed ((k, false) ∷ ts) e = absurd (true≢false (sym e))

pub pass_append : (xs ys : List (ℕ × Bool)) → all_pass (xs ++ ys) ≡ all_pass xs && all_pass ys
unfolding all_pass
pass_append [] ys = refl
pass_append ((k, true) ∷ xs) ys = pass_append xs ys
pass_append ((k, false) ∷ xs) ys = refl

-- ---- answers

pub else_here : (n m : ℕ) → n ≢ 0 → n ≡ or_else n m
unfolding or_else
else_here n m h = sym (skip (eqb n 0) m n (ne_eqb n 0 h))

pub else_past : (n m : ℕ) → n ≡ 0 → m ≡ or_else n m
unfolding or_else
else_past n m h = sym (pick (eqb n 0) m n (eq-eqb n 0 h))

pub else_none : (n m : ℕ) → or_else n m ≡ 0 → (n ≡ 0) × (m ≡ 0)
unfolding or_else
else_none n m e = cases (λ (x : ℕ). x ≡ 0 → (n ≡ 0) × (m ≡ 0)) (eqb n 0) m n (λ t q. (eqb-true n 0 t, q)) (λ t q. absurd (eqb-false n 0 t q)) e

-- ---- `unless`: n is what the tests of refusals have answered

module _ (k : ℕ) (l : List ℕ) (o : Written) where
  pub unless_none : k ≡ 0 → unless k l o ≡ o
  unfolding unless
  unless_none e = pick (eqb k 0) _ _ (eq-eqb k 0 e)

  pub unless_done : k ≡ 0 → (n : ℕ) (m : List ℕ) → Writes o n m → Writes (unless k l o) n m
  unless_done e n m w = rw (unless_none e) w

-- ---- the number of a refusal

pub small_accepted : (n : ℕ) → n ≤ refused 0 → is_refusal n ≡ false
unfolding is_refusal
small_accepted n h = le-ltb (refused 0) n h

pub refusal_from : (n : ℕ) → is_refusal n ≡ true → refused 1 ≤ n
unfolding is_refusal
refusal_from n e = ltb-true (refused 0) n e

pub is_accepted : (n : ℕ) → is_refusal n ≡ false → n < refused 1
unfolding is_refusal
is_accepted n e = let h = ltb-false (refused 0) n e in omega arith

-- ---- what the code answers: a Result, whose refusal e the tests have found

pub number_some : (e : Refusal) → number_of e ≢ 0
number_some WrongLength q = omega (arith, q)
number_some BrokenLayout q = omega (arith, q)
number_some OutOfRange q = omega (arith, q)
number_some SpentSerial q = omega (arith, q)
number_some BrokenReport q = omega (arith, q)
number_some WidthWithoutRows q = omega (arith, q)
number_some LongInput q = omega (arith, q)
number_some SplitLineEnd q = omega (arith, q)

-- k is the number of the first condition that holds
module _ (k : ℕ) (l : List ℕ) (o : Written) where
  pub unless_err : (e : Refusal) → number_of e ≡ k → Writes (unless k l o) (refused (number_of e)) l
  unfolding unless
  unless_err e is =
      let some : k ≢ 0 = λ q. number_some e (is ∙ q) in
      let f = skip (eqb k 0) o (record { number = refused k; bytes = l }) (ne_eqb k 0 some) in
      record { number = ap refused is ∙ ap (λ (x : Written). x.number) (sym f); left = ap (λ (x : Written). x.bytes) (sym f) }

  pub unless_ok : 0 ≡ k → (n : ℕ) (m : List ℕ) → Writes o n m → Writes (unless k l o) n m
  unless_ok e n m w = unless_done k l o (sym e) n m w

-- two lists of tests, one after the other: the first that fails of the first list, or else of the second
pub first_append : (p : ℕ) (xs ys : List (ℕ × Bool)) → ordered p xs ≡ true → first_of (xs ++ ys) ≡ or_else (first_of xs) (first_of ys)
unfolding first_of
first_append p [] ys o = else_past 0 (first_of ys) refl
first_append p ((k, true) ∷ xs) ys o = first_append (place_in order k) xs ys (ordered_rest p k true xs o)
first_append p ((k, false) ∷ xs) ys o = else_here k (first_of ys) (placed k (ordered_here p k false xs o).place)
