-- Tab: a front written over rows leaves a valid record; spaces typed one after the other leave what the rule says; and the moves where insert is off.
-- Assumes nothing.
use Prim.Native.Nat.{ℕ, suc, ◌+◌, ◌-◌, ◌*◌, ◌/◌, ◌≤◌, ◌<◌}
use mathlib.Core.Path.{◌≡◌, refl, sym, ap, ◌∙◌, subst}
use mathlib.Core.Bool.{Bool, true, false, ◌&&◌}
use mathlib.Core.List.{List, ◌++◌}
use native.Mathlib.Omega.{arith}
use lib.Dec.{eqb}
use lib.ListN.{length, take, drop, length-drop}
use borrow.Author.Tests.{eq-eqb, ne_eqb}
use Rattle.std.specs.Prelude.{if◌then◌else◌}
use Rattle.grid.specs.Layout.{SIZE, FLAGS, MASKS}
use Rattle.grid.specs.Screen.{Screen, with_cursor, move_to}
use Rattle.values.specs.Cursor.{at}
use Rattle.grid.specs.Record.{rows_of, head_at, head_of, screen_of, screen_with, touched_of, front_bytes, rows_bytes, Leaves}
use Rattle.grid.specs.Facts.{HeadFacts, RowsFacts, ScreenFacts, Valid, Known}
use Rattle.values.specs.declared.cursor.Cursor.{Cursor}
use Rattle.grid.specs.declared.head.Head.{Head}
use Rattle.grid.specs.declared.head.Stamp.{Stamp}
use Rattle.std.proofs.lemmas.Bool.{cond-true as pick, cond-false as skip}
use Rattle.octets.specs.Refusals.{all_pass}
use Rattle.octets.proofs.NumberLaws.{whole4}
use Rattle.grid.proofs.Bytes.{rows_back}
use Rattle.grid.proofs.HeadLaws.{head_whole}
use Rattle.grid.proofs.Record.{rows_bytes_of}
use Rattle.grid.proofs.ScreenLaws.{head_seen, rows_seen}
use Rattle.line.specs.Line.{MAX-LOGICAL}
use Rattle.editor.specs.Typing.{type_char}
use Rattle.editor.specs.Tab.{same_cursor, type_spaces, next_stop, tab, tabbed}
use Rattle.editor.specs.Call.{TypeChar, TypeLimited, Tab, in_range, rule, apply, own}
use Rattle.editor.proofs.KeptCall.{apply_facts}
use Rattle.editor.proofs.TypingLaws.{still}

-- ---- a front written over rows is read back

module _ (h : Head) (s : Stamp) (m n : List ℕ) (f : HeadFacts h) (rows : RowsFacts h.width 25 (rows_of m)) (len : length m ≡ SIZE)
    (is : n ≡ front_bytes h s ++ drop FLAGS m) where
  head_back : (rest : List ℕ) → head_of (front_bytes h s ++ rest) ≡ h
  unfolding head_of head_at front_bytes
  head_back rest = head_whole h f

  whole : n ≡ front_bytes h s ++ rows_bytes (rows_of m)
  whole = is ∙ ap (λ (x : List ℕ). front_bytes h s ++ x) (sym (rows_bytes_of m len))

  rows_are : rows_of n ≡ rows_of m
  unfolding front_bytes
  rows_are = ap rows_of whole ∙ rows_back (front_bytes h s) h.width (rows_of m) refl rows

  pub screen_back : screen_of n ≡ record { head = h; rows = rows_of m }
  screen_back =
      let e : head_of n ≡ h = ap head_of is ∙ head_back (drop FLAGS m) in
      λ i. record { head = e i; rows = rows_are i }

  pub valid_back : s.touched < MASKS → Valid n
  unfolding front_bytes touched_of
  valid_back t =
      let w = whole4 s.touched (omega arith) in
      rw is
      (record {
        size = simp length-drop (omega arith);
        length_high = refl;
        length_low = refl;
        version = refl;
        touched = omega arith;
        screen = subst ScreenFacts (sym (ap screen_of (sym is) ∙ screen_back)) (record { head = f; rows = rows });
      })

-- ---- type_spaces: of n spaces on the screen s, i are typed, which have made the record l of l₀ and left the head h; what is left to type leads to the answer

pub record Spaced (s : Screen) (l₀ : List ℕ) (n : ℕ) (l : List ℕ) (h : Head) (i : ℕ) : Type 0 where
  pub known : Known l h
  pub front : take FLAGS l ≡ take FLAGS l₀
  pub rest : type_spaces (n - i) (screen_with h l) ≡ type_spaces n s

-- m is the record after one more, g its head, and t says that the cursor has not moved
module _ (s : Screen) (l₀ l m : List ℕ) (h g : Head) (n i : ℕ) (t : Bool) (more : i < n) (spaced : Spaced s l₀ n l h i)
    (typed : Leaves (apply (TypeLimited 32 MAX-LOGICAL) (screen_with h l)) l m g) (is : t ≡ (eqb h.cursor.row g.cursor.row && eqb h.cursor.col g.cursor.col)) where
  after : screen_with g m ≡ type_char (screen_with h l) 32
  unfolding apply rule type_char
  after = λ j. record { head = typed.head j; rows = typed.becomes.rows j }

  facts : ScreenFacts (screen_with g m)
  unfolding apply in_range own all_pass rule
  facts = subst ScreenFacts (sym after) (apply_facts (TypeChar 32) (screen_with h l) refl (record { head = spaced.known.facts; rows = spaced.known.rows }))

  same : same_cursor h.cursor (type_char (screen_with h l) 32).head.cursor ≡ t
  unfolding same_cursor
  same = sym (ap (λ (x : Screen). same_cursor h.cursor x.head.cursor) after) ∙ sym is

  left : n - i ≡ suc (n - (i + 1))
  left = omega arith

  -- the next turn of the rule
  turn : (if t then type_char (screen_with h l) 32 else type_spaces (n - (i + 1)) (type_char (screen_with h l) 32)) ≡ type_spaces n s
  unfolding type_spaces
  turn =
      sym (ap (λ (b : Bool). if b then type_char (screen_with h l) 32 else type_spaces (n - (i + 1)) (type_char (screen_with h l) 32)) same)
      ∙ sym (ap (λ (x : ℕ). type_spaces x (screen_with h l)) left) ∙ spaced.rest

  pub spaced_still : t ≡ true → Leaves (type_spaces n s) l₀ m g
  spaced_still e =
      let q : screen_with g m ≡ type_spaces n s = after ∙ sym (pick t _ _ e) ∙ turn in
      record {
        becomes = record { size = typed.becomes.size; front = typed.becomes.front ∙ spaced.front; rows = rows_seen m g _ q };
        head = head_seen m g _ q;
      }

  pub spaced_turn : t ≡ false → Spaced s l₀ n m g (i + 1)
  spaced_turn e =
      record {
        known = record { size = typed.becomes.size; facts = facts.head; rows = facts.rows };
        front = typed.becomes.front ∙ spaced.front;
        rest = ap (type_spaces (n - (i + 1))) after ∙ sym (skip t _ _ e) ∙ turn;
      }

pub spaced_end : (s : Screen) (l₀ l : List ℕ) (h : Head) (n i : ℕ) → i ≤ n → n ≤ i → Spaced s l₀ n l h i → Leaves (type_spaces n s) l₀ l h
unfolding type_spaces
spaced_end s l₀ l h n i lo hi spaced =
    let k : 0 ≡ n - i = omega arith in
    let q : screen_with h l ≡ type_spaces n s = ap (λ (x : ℕ). type_spaces x (screen_with h l)) k ∙ spaced.rest in
    record { becomes = record { size = spaced.known.size; front = spaced.front; rows = rows_seen l h _ q }; head = head_seen l h _ q }

-- ---- tab: the screen has the head h and the rows of the record r

module _ (r : List ℕ) (h : Head) (s : Screen) (is : screen_with h r ≡ s) where
  pub tab_typed : (l m : List ℕ) (g : Head) (t : ℕ) → h.insert ≡ 1 → t ≡ next_stop h.cursor.col → Leaves (type_spaces (t - h.cursor.col) s) l m g
      → Leaves (apply Tab s) l m g
  unfolding apply rule tab
  tab_typed l m g t i et typed =
      let q : h ≡ s.head = head_seen r h s is in
      rw (eq-eqb s.head.insert 1 (ap (λ (x : Head). x.insert) (sym q) ∙ i))
      (subst (λ (x : Head). Leaves (type_spaces (next_stop x.cursor.col - x.cursor.col) s) l m g) q (rw et at typed))

  pub tab_done : (l : List ℕ) (g : Head) (c : Cursor) → (h.insert ≡ 1 → ⊥) → length l ≡ SIZE → rows_of l ≡ s.rows → c ≡ tabbed s.head → g ≡ with_cursor h c
      → Leaves (apply Tab s) l l g
  unfolding apply rule tab move_to
  tab_done l g c i size rows ec eg =
      let q : h ≡ s.head = head_seen r h s is in
      rw (ne_eqb s.head.insert 1 (λ e. i (ap (λ (x : Head). x.insert) q ∙ e)))
      (still (move_to s (tabbed s.head)) size rows (eg ∙ ap (with_cursor h) ec ∙ ap (λ (x : Head). with_cursor x (tabbed s.head)) q))

-- ---- next_stop

pub next_stop_is : (c t : ℕ) → t ≡ (c / 8 + 1) * 8 → t ≡ next_stop c
unfolding next_stop
next_stop_is c t e = e

pub after_stop : (c t : ℕ) → t ≡ (c / 8 + 1) * 8 → c < t
after_stop c t e = omega arith
