-- Each kind of call is refused exactly by the documents' conditions, in their order, and does what the rules say otherwise.
-- Assumes nothing.
use Prim.Native.Nat.{ℕ, ◌<◌}
use mathlib.Core.Path.{◌≡◌, refl, sym, ap, ◌∙◌, subst}
use mathlib.Core.Bool.{Bool, true, false, not, ◌&&◌, true≢false, not-eq-not}
use mathlib.Core.List.{List, [], ◌∷◌, ◌++◌}
use mathlib.Core.Logic.{◌≢◌, inl, inr, ⊎_elim}
use native.Mathlib.Omega.{arith}
use lib.ListN.{length, get_or}
use lib.Dec.{leb, ltb, eqb}
use borrow.Author.Tests.{ltb-false, leb-true, leb-false, eqb-false, le-ltb, lt-leb, eq-eqb, eqb-true, ne_eqb, not-false}
use Rattle.octets.specs.Answer.{refused, over, Written, unless, wrote}
use Rattle.grid.specs.Layout.{SIZE}
use Rattle.grid.specs.Screen.{Screen, new_state}
use Rattle.octets.specs.Width.{widthb}
use Rattle.octets.specs.Test.{every, is_byte}
use Rattle.grid.specs.Record.{serial_of, screen_of, read_state, state_bytes}
use Rattle.std.proofs.lemmas.Bool.{and_cases}
use Rattle.octets.proofs.Bools.{and_false, left_false, and_right, and_left, and_both}
use Rattle.octets.proofs.WidthLaws.{width_cases, cases_width}
use Rattle.line.specs.Line.{MAX-LOGICAL}
use Rattle.line.proofs.KeptLine.{line_fits}
use Rattle.editor.specs.Print.{splits}
use Rattle.editor.specs.Waiting.{waited}
use Rattle.editor.specs.Call.{Call, limited_ok, rule, output, lengths, own, in_range, submitted, answer, step}
use Rattle.editor.specs.Call.Call.{PrintBytes, PrintChecked, PrintWaiting, TypeChar, TypeLimited, Backspace, DeleteChar, EraseToEnd, EscapeLine, Tab, CtrlEnter, TakeLogicalLine, BreakLine, MoveLeft, MoveRight, MoveUp, MoveDown, Home, WordLeft, WordRight, EndOfLine, Clear, SetWidth, SetCursor, SetInsert, SetAttr, SetKeysOn}
use Rattle.editor.specs.Outcome.{LAST-SERIAL, serial_tests, change_tests, Outcome, changing, creating, Query, inside, value, query_tests, asking, TextCall, room, text_of, texting}
use Rattle.editor.specs.Outcome.Query.{AskWidth, AskCursor, AskAttr, AskEditableRows, AskCell, AskContinues}
use Rattle.editor.specs.Outcome.TextCall.{LogicalText, Snapshot}
use Rattle.editor.specs.Refusals.{WrongLength, ArgumentRefused, ChangeRefused, ChangingAnswers, NewRefused, CreatingAnswers, Outside, QueryRefused, AskingAnswers, ShortText, TextRefused, TextingAnswers}
use Rattle.editor.specs.Refusals.WrongLength.{line}
use Rattle.editor.specs.Refusals.ArgumentRefused.{character, attribute, insert, keys, width, limited_character, low_limit, high_limit, row_limit, input, split}
use Rattle.editor.specs.Refusals.ChangeRefused.{record_length, lent_length, layout, argument, last_serial}
use Rattle.editor.specs.Refusals.NewRefused.{record_length as new-length}
use Rattle.editor.specs.Refusals.Outside.{cell_row, cell_column, continues_row}
use Rattle.editor.specs.Refusals.QueryRefused.{record_length as query-length, layout as query-layout, argument as query-argument}
use Rattle.editor.specs.Refusals.ShortText.{line as text-line, picture}
use Rattle.editor.specs.Refusals.TextRefused.{record_length as text-length, output_length as text-output, layout as text-layout}
use Rattle.editor.proofs.Taken.{taken_to, taken_most}
use Rattle.editor.proofs.Answers.{text_fits, room_most, value_fits}
use Rattle.octets.specs.Refusals.{order, place_in, first_of, all_pass}
use Rattle.octets.proofs.Found.{Fails, First, Found, found, found_none, ordered, answered, fails_left, fails_right, first_split, none_first, none_fails, all_passed, pass_append}
use Rattle.octets.proofs.Found.Fails.{here, there}
use Rattle.octets.proofs.Found.First.{now, later}
use Rattle.grid.specs.Refusals.{record_tests}
use Rattle.grid.proofs.RefusalLaws.{Taken, tests_taken, record_ordered, record_sound, size_fails, other_fails, layout_fails}

-- ---- changing calls

-- what the tests of a call say when they fail, how large its answer is, and that the tests stand in their order
pub record Tells (c : Call) : Type 0 where
  pub short : lengths c ≡ false → WrongLength c
  pub own_first : (s : Screen) (k : ℕ) → First (own c s) k → ArgumentRefused s c k
  pub small : (s : Screen) → in_range c s ≡ true → answer c s < refused 0
  pub order : (l : List ℕ) → ordered 0 (change_tests c l) ≡ true

-- a call with no output, and with no argument that can be out of range
always_tells : (c : Call) → lengths c ≡ true → ((s : Screen) → answer c s ≡ 0) → ((s : Screen) → own c s ≡ [])
    → ((l : List ℕ) → ordered 0 (change_tests c l) ≡ true) → Tells c
always_tells c r n none o =
    record {
      short = λ e. absurd (true≢false (sym r ∙ e));
      own_first = λ s k f. none_first (subst (λ (ts : List (ℕ × Bool)). First ts k) (none s) f);
      small = λ s r. omega (arith, n s);
      order = o;
    }

-- and with one that is in range where ok says so
given_tells : (c : Call) (ok : Bool) → lengths c ≡ true → ((s : Screen) → answer c s ≡ 0) → ((s : Screen) → own c s ≡ (3, ok) ∷ [])
    → ((l : List ℕ) → ordered 0 (change_tests c l) ≡ true) → ((s : Screen) → ok ≡ false → ArgumentRefused s c 3) → Tells c
given_tells c ok r n one o outside =
    record {
      short = λ e. absurd (true≢false (sym r ∙ e));
      own_first = λ s k f. go s k (subst (λ (ts : List (ℕ × Bool)). First ts k) (one s) f);
      small = λ s r. omega (arith, n s);
      order = o;
    }
  where
    go : (s : Screen) (k : ℕ) → First ((3, ok) ∷ []) k → ArgumentRefused s c k
    go s k (now e) = outside s e
    go s k (later e f) = none_first f

-- the checked print
checked_tells : (bs : List ℕ) → ((l : List ℕ) → ordered 0 (change_tests (PrintChecked bs) l) ≡ true) → Tells (PrintChecked bs)
unfolding lengths own answer rule splits
checked_tells bs o =
    record { short = λ e. absurd (true≢false e); own_first = λ s k f. go bs s k f; small = λ s r. omega arith; order = o }
  where
    begins : (cs : List ℕ) (s : Screen) → eqb (get_or cs 0 0) 10 && eqb s.head.cr 1 ≡ true → ArgumentRefused s (PrintChecked cs) 13
    begins [] s e = absurd (true≢false (sym e))
    begins (c ∷ cs) s e =
        let ten = sym (eqb-true c 10 (and_left (eqb c 10) _ e)) in
        subst (λ (x : ℕ). ArgumentRefused s (PrintChecked (x ∷ cs)) 13) ten (split (eqb-true _ _ (and_right (eqb c 10) _ e)))

    go : (cs : List ℕ) (s : Screen) (k : ℕ) → First ((13, not (eqb (get_or cs 0 0) 10 && eqb s.head.cr 1)) ∷ []) k → ArgumentRefused s (PrintChecked cs) k
    go cs s k (now e) = begins cs s (not-false _ e)
    go cs s k (later e f) = none_first f

-- the waiting print
waiting_tells : (bs : List ℕ) (rows : ℕ) → ((l : List ℕ) → ordered 0 (change_tests (PrintWaiting bs rows) l) ≡ true) → Tells (PrintWaiting bs rows)
unfolding lengths own in_range answer waited rule all_pass
waiting_tells bs rows o =
    record {
      short = λ e. absurd (true≢false e);
      own_first = go;
      small = λ s r.
          let few = leb-true rows 1000 (and_left (leb rows 1000) _ r) in
          let fit = leb-true (length bs) 65535 (and_left (leb (length bs) 65535) true (and_right (leb rows 1000) _ r)) in
          omega (arith, taken_to s bs rows, taken_most s bs rows);
      order = o;
    }
  where
    go : (s : Screen) (k : ℕ) → First ((3, leb rows 1000) ∷ (7, leb (length bs) 65535) ∷ []) k → ArgumentRefused s (PrintWaiting bs rows) k
    go s k (now e) = row_limit (leb-false _ _ e)
    go s k (later e (now f)) = input (leb-false _ _ f)
    go s k (later e (later f g)) = none_first g

-- the limited typing
limited_outside : (s : Screen) (ch limit : ℕ) → limited_ok ch limit ≡ false → ArgumentRefused s (TypeLimited ch limit) 3
unfolding limited_ok
limited_outside s ch limit e =
    ⊎_elim
    (λ n. ⊎_elim (λ m. low_limit (leb-false _ _ m)) (λ m. high_limit (leb-false _ _ m)) (and_cases (leb 1 limit) (leb limit MAX-LOGICAL) n))
    (λ n. limited_character (leb-false _ _ n)) (and_cases (leb 1 limit && leb limit MAX-LOGICAL) (leb ch 255) e)

width_not : (w : ℕ) → widthb w ≡ false → (w ≢ 40) × (w ≢ 80)
width_not w e = (λ q. true≢false (sym (cases_width w (inl q)) ∙ e), λ q. true≢false (sym (cases_width w (inr q)) ∙ e))

pub tells : (c : Call) → Tells c
unfolding lengths own answer rule change_tests record_tests serial_tests ordered place_in order
tells (PrintBytes bs) = always_tells _ refl (λ s. refl) (λ s. refl) (λ l. refl)
tells (PrintChecked bs) = checked_tells bs (λ l. refl)
tells (PrintWaiting bs rows) = waiting_tells bs rows (λ l. refl)
tells (TypeChar ch) = given_tells _ _ refl (λ s. refl) (λ s. refl) (λ l. refl) (λ s e. character (leb-false ch 255 e))
tells (TypeLimited ch limit) = given_tells _ _ refl (λ s. refl) (λ s. refl) (λ l. refl) (λ s e. limited_outside s ch limit e)
tells Backspace = always_tells _ refl (λ s. refl) (λ s. refl) (λ l. refl)
tells DeleteChar = always_tells _ refl (λ s. refl) (λ s. refl) (λ l. refl)
tells EraseToEnd = always_tells _ refl (λ s. refl) (λ s. refl) (λ l. refl)
tells EscapeLine = always_tells _ refl (λ s. refl) (λ s. refl) (λ l. refl)
tells Tab = always_tells _ refl (λ s. refl) (λ s. refl) (λ l. refl)
tells CtrlEnter = always_tells _ refl (λ s. refl) (λ s. refl) (λ l. refl)
tells (TakeLogicalLine out) =
    record { short = λ e. line (leb-false _ _ e); own_first = λ s k f. none_first f; small = λ s r. omega (arith, line_fits s); order = λ l. refl }
tells BreakLine = always_tells _ refl (λ s. refl) (λ s. refl) (λ l. refl)
tells MoveLeft = always_tells _ refl (λ s. refl) (λ s. refl) (λ l. refl)
tells MoveRight = always_tells _ refl (λ s. refl) (λ s. refl) (λ l. refl)
tells MoveUp = always_tells _ refl (λ s. refl) (λ s. refl) (λ l. refl)
tells MoveDown = always_tells _ refl (λ s. refl) (λ s. refl) (λ l. refl)
tells Home = always_tells _ refl (λ s. refl) (λ s. refl) (λ l. refl)
tells WordLeft = always_tells _ refl (λ s. refl) (λ s. refl) (λ l. refl)
tells WordRight = always_tells _ refl (λ s. refl) (λ s. refl) (λ l. refl)
tells EndOfLine = always_tells _ refl (λ s. refl) (λ s. refl) (λ l. refl)
tells Clear = always_tells _ refl (λ s. refl) (λ s. refl) (λ l. refl)
tells (SetWidth w) = given_tells _ _ refl (λ s. refl) (λ s. refl) (λ l. refl) (λ s e. width (width_not w e).0 (width_not w e).1)
tells (SetCursor r c) = always_tells _ refl (λ s. refl) (λ s. refl) (λ l. refl)
tells (SetInsert v) = given_tells _ _ refl (λ s. refl) (λ s. refl) (λ l. refl) (λ s e. insert (leb-false v 1 e))
tells (SetAttr a) = given_tells _ _ refl (λ s. refl) (λ s. refl) (λ l. refl) (λ s e. attribute (leb-false a 255 e))
tells (SetKeysOn v) = given_tells _ _ refl (λ s. refl) (λ s. refl) (λ l. refl) (λ s e. keys (leb-false v 1 e))

wrong_fails : {c : Call} → WrongLength c → lengths c ≡ false
unfolding lengths rule
wrong_fails (line h) = lt-leb _ _ h

argument_fails : {s : Screen} {c : Call} {k : ℕ} → ArgumentRefused s c k → Fails (own c s) k
unfolding own rule splits limited_ok
argument_fails (character h) = here (lt-leb _ _ h)
argument_fails (limited_character {limit = n} h) = here (and_false (leb 1 n && leb n MAX-LOGICAL) _ (lt-leb _ _ h))
argument_fails (low_limit h) = here (left_false _ _ (left_false _ _ (lt-leb _ _ h)))
argument_fails (high_limit {limit = n} h) = here (left_false _ _ (and_false (leb 1 n) _ (lt-leb _ _ h)))
argument_fails (attribute h) = here (lt-leb _ _ h)
argument_fails (insert h) = here (lt-leb _ _ h)
argument_fails (keys h) = here (lt-leb _ _ h)
argument_fails (row_limit h) = here (lt-leb _ _ h)
argument_fails (input h) = there (here (lt-leb _ _ h))
argument_fails (split e) = here (ap not (and_both true _ refl (eq-eqb _ _ e)))
argument_fails (width n m) = here ((not-eq-not {b = false}).0 (λ t. ⊎_elim n m (width_cases _ t)))

-- ---- what is so of an accepted changing call

pub record Going (c : Call) (l : List ℕ) : Type 0 where
  pub start : Taken (lengths c) l
  pub is_in_range : in_range c (screen_of l) ≡ true
  pub serial : serial_of l ≢ LAST-SERIAL

pub going : (c : Call) (l : List ℕ) → first_of (change_tests c l) ≡ 0 → Going c l
unfolding change_tests in_range serial_tests all_pass
going c l e =
    let first : List (ℕ × Bool) = record_tests (lengths c) l in
    let mine : List (ℕ × Bool) = own c (screen_of l) in
    let all : all_pass (first ++ (mine ++ serial_tests l)) ≡ true = none_fails 0 (change_tests c l) ((tells c).order l) e in
    let parts : all_pass first && all_pass (mine ++ serial_tests l) ≡ true = sym (pass_append first (mine ++ serial_tests l)) ∙ all in
    let late : all_pass mine && all_pass (serial_tests l) ≡ true =
    sym (pass_append mine (serial_tests l)) ∙ and_right (all_pass first) (all_pass (mine ++ serial_tests l)) parts in
    let start = and_left (all_pass first) (all_pass (mine ++ serial_tests l)) parts in
    record {
      start = tests_taken (lengths c) l start (all_passed first start);
      is_in_range = and_left (all_pass mine) (all_pass (serial_tests l)) late;
      serial = λ q.
          true≢false
          (sym (and_left (not (eqb (serial_of l) LAST-SERIAL)) true (and_right (all_pass mine) (all_pass (serial_tests l)) late))
          ∙ ap not (eq-eqb _ _ q));
    }

-- ---- a changing call is refused by its conditions

module _ (c : Call) (l : List ℕ) where
  change_sound : (k : ℕ) → First (change_tests c l) k → ChangeRefused c l k
  unfolding change_tests serial_tests
  change_sound k f =
      ⊎_elim (λ (g : First (record_tests (lengths c) l) k). record_sound (ChangeRefused c l) l (lengths c) record_length (λ e. lent_length ((tells c).short e)) layout k g)
      (λ (g : First (own c (screen_of l) ++ serial_tests l) k).
      ⊎_elim (λ (i : First (own c (screen_of l)) k). argument ((tells c).own_first (screen_of l) k i)) (λ (i : First (serial_tests l) k). last k i)
      (first_split (own c (screen_of l)) g))
      (first_split (record_tests (lengths c) l) f)
    where
      last : (k : ℕ) → First (serial_tests l) k → ChangeRefused c l k
      last k (now e) = last_serial (eqb-true _ _ (not-false _ e))
      last k (later e f) = none_first f

  change_whole : (k : ℕ) → ChangeRefused c l k → Fails (change_tests c l) k
  unfolding change_tests
  change_whole k (record_length n) = fails_left _ (size_fails l (lengths c) n)
  change_whole k (lent_length w) = fails_left _ (other_fails l (lengths c) (wrong_fails w))
  change_whole k (layout n) = fails_left _ (layout_fails l (lengths c) n)
  change_whole k (argument a) = fails_right (record_tests (lengths c) l) (fails_left _ (argument_fails a))
  change_whole k (last_serial e) =
      fails_right (record_tests (lengths c) l) (fails_right (own c (screen_of l)) (unfold serial_tests in here (ap not (eq-eqb _ _ e))))

  change_found : Found (ChangeRefused c l) (first_of (change_tests c l))
  change_found = found _ _ ((tells c).order l) change_sound change_whole

  pub changing_answers : ChangingAnswers c l
  unfolding changing
  changing_answers =
      let text : List ℕ = submitted c (screen_of l) in
      let a =
      answered (λ (o : Outcome). o.number) change_found
      (record { number = answer c (screen_of l); rec = state_bytes (step c (read_state l)); out = over text (output c) })
      (record { number = refused (first_of (change_tests c l)); rec = l; out = output c })
      (λ e. (tells c).small (screen_of l) (going c l e).is_in_range) refl in
      record {
        number = a.refuses;
        kept = λ h. (ap (λ (o : Outcome). o.rec) (a.kept h), ap (λ (o : Outcome). o.out) (a.kept h));
        done = a.done;
      }

  -- no test of an accepted call fails
  pub change_none : (changing c l).number < refused 1 → first_of (change_tests c l) ≡ 0
  change_none h = found_none change_found (changing_answers.number.accepted.0 h)

-- ---- new screen

module _ (w sitting : ℕ) (l : List ℕ) where
  new_sound : (k : ℕ) → First ((1, eqb (length l) SIZE) ∷ []) k → NewRefused l k
  new_sound k (now e) = new-length (eqb-false _ _ e)
  new_sound k (later e f) = none_first f

  new_whole : (k : ℕ) → NewRefused l k → Fails ((1, eqb (length l) SIZE) ∷ []) k
  new_whole k (new-length n) = here (ne_eqb _ _ n)

  pub creating_answers : CreatingAnswers w sitting l
  unfolding creating unless
  creating_answers =
      let a =
      answered (λ (o : Written). o.number)
      (found (NewRefused l) ((1, eqb (length l) SIZE) ∷ []) (unfold ordered place_in order in refl) new_sound new_whole)
      (record { number = 0; bytes = state_bytes (new_state w sitting) }) (record { number = refused _; bytes = l }) (λ e. omega arith) refl in
      record { number = a.refuses; kept = λ h. ap (λ (o : Written). o.bytes) (a.kept h); done = a.done }

-- ---- reading calls

outside_inside : {s : Screen} {q : Query} → Outside s q → inside q s ≡ false
unfolding inside
outside_inside (cell_row h) = left_false _ _ (lt-leb _ _ h)
outside_inside (cell_column {r = r} h) = and_false (leb r 24) _ (le-ltb _ _ h)
outside_inside (continues_row h) = lt-leb _ _ h

inside_outside : (s : Screen) (q : Query) → inside q s ≡ false → Outside s q
unfolding inside
inside_outside s AskWidth e = absurd (true≢false e)
inside_outside s AskCursor e = absurd (true≢false e)
inside_outside s AskAttr e = absurd (true≢false e)
inside_outside s AskEditableRows e = absurd (true≢false e)
inside_outside s (AskCell r c) e =
    ⊎_elim (λ n. cell_row (leb-false _ _ n)) (λ n. cell_column (ltb-false _ _ n)) (and_cases (leb r 24) (ltb c s.head.width) e)
inside_outside s (AskContinues r) e = continues_row (leb-false _ _ e)

module _ (q : Query) (l : List ℕ) where
  query_sound : (k : ℕ) → First (query_tests q l) k → QueryRefused q l k
  unfolding query_tests
  query_sound k f =
      ⊎_elim (λ (g : First (record_tests true l) k). record_sound (QueryRefused q l) l true query-length (λ e. absurd (true≢false e)) query-layout k g)
      (λ (g : First ((3, inside q (screen_of l)) ∷ []) k). go k g) (first_split (record_tests true l) f)
    where
      go : (k : ℕ) → First ((3, inside q (screen_of l)) ∷ []) k → QueryRefused q l k
      go k (now e) = query-argument (inside_outside (screen_of l) q e)
      go k (later e f) = none_first f

  query_whole : (k : ℕ) → QueryRefused q l k → Fails (query_tests q l) k
  unfolding query_tests
  query_whole k (query-length n) = fails_left _ (size_fails l true n)
  query_whole k (query-layout n) = fails_left _ (layout_fails l true n)
  query_whole k (query-argument h) = fails_right (record_tests true l) (here (outside_inside h))

  query_ordered : ordered 0 (query_tests q l) ≡ true
  unfolding query_tests record_tests ordered place_in order
  query_ordered = refl

  query_found : Found (QueryRefused q l) (first_of (query_tests q l))
  query_found = found _ _ query_ordered query_sound query_whole

  -- what is so of an accepted query
  pub query_none : first_of (query_tests q l) ≡ 0 → Taken true l × (inside q (screen_of l) ≡ true)
  unfolding query_tests all_pass
  query_none e =
      let one : List (ℕ × Bool) = (3, inside q (screen_of l)) ∷ [] in
      let all : all_pass (record_tests true l ++ one) ≡ true = none_fails 0 (query_tests q l) query_ordered e in
      let parts : all_pass (record_tests true l) && all_pass one ≡ true = sym (pass_append (record_tests true l) one) ∙ all in
      let start = and_left (all_pass (record_tests true l)) (all_pass one) parts in (
        tests_taken true l start (all_passed (record_tests true l) start),
        and_left (inside q (screen_of l)) true (and_right (all_pass (record_tests true l)) (all_pass one) parts),
      )

  pub asking_answers : every is_byte l ≡ true → AskingAnswers q l
  unfolding asking
  asking_answers bytes =
      let a =
      answered (λ (n : ℕ). n) query_found (value q (screen_of l)) (refused (first_of (query_tests q l)))
      (λ e. let p = query_none e in omega (arith, value_fits l p.0.valid bytes q p.1)) refl in
      record { number = a.refuses; done = a.done }

-- ---- text calls

short_room : {out : List ℕ} {q : TextCall} → ShortText out q → leb (room q) (length out) ≡ false
unfolding room
short_room (text-line h) = lt-leb _ _ h
short_room (picture h) = lt-leb _ _ h

room_short : (out : List ℕ) (q : TextCall) → leb (room q) (length out) ≡ false → ShortText out q
unfolding room
room_short out LogicalText e = text-line (leb-false _ _ e)
room_short out Snapshot e = picture (leb-false _ _ e)

module _ (q : TextCall) (l out : List ℕ) where
  text_sound : (k : ℕ) → First (record_tests (leb (room q) (length out)) l) k → TextRefused q l out k
  text_sound k f = record_sound (TextRefused q l out) l (leb (room q) (length out)) text-length (λ e. text-output (room_short out q e)) text-layout k f

  text_whole : (k : ℕ) → TextRefused q l out k → Fails (record_tests (leb (room q) (length out)) l) k
  text_whole k (text-length n) = size_fails l _ n
  text_whole k (text-output h) = other_fails l _ (short_room h)
  text_whole k (text-layout n) = layout_fails l _ n

  pub texting_answers : TextingAnswers q l out
  unfolding texting unless wrote
  texting_answers =
      let tests : List (ℕ × Bool) = record_tests (leb (room q) (length out)) l in
      let order = record_ordered l (leb (room q) (length out)) in
      let a =
      answered (λ (o : Written). o.number) (found (TextRefused q l out) tests order text_sound text_whole) (wrote (text_of q (screen_of l)) out)
      (record { number = refused _; bytes = out })
      (λ e.
      let p = tests_taken (leb (room q) (length out)) l (none_fails 0 tests order e) e in
      omega (arith, text_fits q (screen_of l) p.valid.screen, room_most q)) refl in
      record { number = a.refuses; kept = λ h. ap (λ (o : Written). o.bytes) (a.kept h); done = a.done }
