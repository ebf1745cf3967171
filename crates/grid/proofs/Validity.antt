-- From the tests of a valid screen to the facts, and back.
-- Assumes nothing.
use Prim.Native.Nat.{ℕ, ◌≤◌, ◌<◌}
use mathlib.Core.Path.{◌≡◌}
use mathlib.Core.Bool.{true}
use mathlib.Core.List.{List}
use mathlib.Core.Logic.{◌⊎◌}
use native.Mathlib.Omega.{arith}
use lib.Dec.{eqb}
use borrow.Author.Tests.{ltb-true, leb-true, eqb-true, lt-ltb, le-leb, eq-eqb}
use Rattle.grid.specs.Screen.{Row, Screen, with_cr, editable, valid_attr, valid_head, valid_row, valid_screen}
use Rattle.grid.specs.Record.{screen_of, frontb, validb}
use Rattle.grid.specs.Facts.{HeadFacts, HeadFits, RowFacts, ScreenFacts, Valid}
use Rattle.grid.specs.declared.head.Head.{Head}
use Rattle.octets.proofs.Bools.{and_left, and_right, and_both, either}
use Rattle.octets.proofs.WidthLaws.{width_from, cases_width, width_to, width_cases}

-- ---- a screen's two widths and its two numbers of editable rows

pub editable_from : (k : ℕ) → 24 ≤ editable k
unfolding editable
editable_from k = either (λ (e : ℕ). 24 ≤ e) (eqb k 1) _ _ (omega arith) (omega arith)

pub editable_to : (k : ℕ) → editable k ≤ 25
unfolding editable
editable_to k = either (λ (e : ℕ). e ≤ 25) (eqb k 1) _ _ (omega arith) (omega arith)

-- ---- the head

-- what is left to know of a head: the rest of `HeadFacts` follows
pub head_is : (h : Head) → (h.width ≡ 40) ⊎ (h.width ≡ 80) → h.cursor.row < editable h.keys → h.cursor.col < h.width → h.insert ≤ 1
    → h.cr ≤ 1 → h.keys ≤ 1 → h.attr.foreground < 16 → h.attr.background < 16 → HeadFacts h
head_is h w r c i e k f b =
    record {
      widths = w;
      width_from = width_from h.width w;
      width_to = width_to h.width w;
      insert = i;
      cr = e;
      keys = k;
      edit_from = editable_from h.keys;
      edit_to = editable_to h.keys;
      row = r;
      col = c;
      foreground = f;
      background = b;
    }

pub with_cr_facts : (h : Head) (v : ℕ) → HeadFacts h → v ≤ 1 → HeadFacts (with_cr h v)
with_cr_facts h v f e = head_is _ f.widths f.row f.col f.insert e f.keys f.foreground f.background

pub head_facts : (h : Head) → valid_head h ≡ true → HeadFacts h
unfolding valid_head valid_attr
head_facts h v =
    head_is h (width_cases h.width (search (and_left, and_right) depth 8)) (ltb-true _ _ (search (and_left, and_right) depth 8))
    (ltb-true _ _ (search (and_left, and_right) depth 8)) (leb-true _ _ (search (and_left, and_right) depth 8))
    (leb-true _ _ (search (and_left, and_right) depth 8)) (leb-true _ _ (search (and_left, and_right) depth 8)) (ltb-true _ _ (search (and_left, and_right) depth 8))
    (ltb-true _ _ (search (and_left, and_right) depth 8))

pub head_valid : (h : Head) → HeadFacts h → valid_head h ≡ true
unfolding valid_head valid_attr
head_valid h f =
    let w = cases_width h.width f.widths in
    search (and_both, lt-ltb, le-leb) depth 8

pub head_fits : (h : Head) → HeadFacts h → HeadFits h
head_fits h f = omega arith

-- ---- the rows

pub row_facts : (w : ℕ) (x : Row) → valid_row w x ≡ true → RowFacts w x
unfolding valid_row
row_facts w x v =
    record {
      chars80 = eqb-true _ _ (search (and_left, and_right) depth 8);
      attrs80 = eqb-true _ _ (search (and_left, and_right) depth 8);
      flag = leb-true _ _ (search (and_left, and_right) depth 8);
      inside = search (and_left, and_right) depth 8;
      chars_rest = search (and_left, and_right) depth 8;
      attrs_rest = search (and_left, and_right) depth 8;
    }

pub row_valid : (w : ℕ) (x : Row) → RowFacts w x → valid_row w x ≡ true
unfolding valid_row
row_valid w x f = search (and_both, eq-eqb, le-leb) depth 8

-- ---- the screen

pub screen_facts : (s : Screen) → valid_screen s ≡ true → ScreenFacts s
unfolding valid_screen
screen_facts s v =
    record {
      head = head_facts s.head (search (and_left, and_right));
      rows = record { count = eqb-true _ _ (search (and_left, and_right)); valid = search (and_left, and_right) };
    }

pub screen_valid : (s : Screen) → ScreenFacts s → valid_screen s ≡ true
unfolding valid_screen
screen_valid s f =
    let h = head_valid s.head f.head in
    search (and_both, eq-eqb)

-- ---- the record

pub valid_facts : (l : List ℕ) → validb l ≡ true → Valid l
unfolding validb frontb
valid_facts l v =
    record {
      size = eqb-true _ _ (search (and_left, and_right) depth 8);
      length_high = eqb-true _ _ (search (and_left, and_right) depth 8);
      length_low = eqb-true _ _ (search (and_left, and_right) depth 8);
      version = eqb-true _ _ (search (and_left, and_right) depth 8);
      touched = ltb-true _ _ (search (and_left, and_right) depth 8);
      screen = screen_facts (screen_of l) (search (and_left, and_right) depth 8);
    }

pub facts_valid : (l : List ℕ) → Valid l → validb l ≡ true
unfolding validb frontb
facts_valid l f =
    let s = screen_valid (screen_of l) f.screen in
    search (and_both, eq-eqb, lt-ltb) depth 8
