-- The typing keys: what each way out of the code leaves is what the rule says. l is the record, s the screen that is typed on, m what is left and g the head that
-- is handed back; t is the text of the line u, which is the screen's.
-- Assumes nothing.
use Prim.Native.Nat.{ℕ, ◌+◌, ◌-◌, ◌*◌, ◌≤◌, ◌<◌, min}
use mathlib.Core.Path.{◌≡◌, refl, sym, ap, ◌∙◌, subst}
use mathlib.Core.Bool.{Bool, true, false, not}
use mathlib.Core.List.{List, [], ◌∷◌, ◌++◌}
use mathlib.Core.Logic.{◌≢◌}
use native.Mathlib.Omega.{arith}
use native.Mathlib.Decide.{ℕ_discrete}
use lib.Dec.{leb, ltb, eqb}
use lib.ListN.{length, take, drop, set}
use borrow.Author.Tests.{not-true, not-false, lt-ltb, le-ltb, le-leb, lt-leb, eq-eqb, ne_eqb}
use Rattle.std.specs.Prelude.{if◌then◌else◌}
use Rattle.std.proofs.lemmas.Bool.{cond-true as pick, cond-false as skip}
use Rattle.grid.specs.Layout.{SIZE}
use Rattle.grid.specs.Screen.{Screen, printable}
use Rattle.grid.specs.Record.{rows_of, screen_with, Leaves}
use Rattle.grid.specs.declared.head.Head.{Head}
use Rattle.grid.proofs.ScreenLaws.{head_seen}
use Rattle.line.specs.Line.{MAX-LOGICAL, start_of, content, index}
use Rattle.line.specs.Splice.{splice}
use Rattle.line.specs.Text.{Holds, text_of}
use Rattle.line.specs.declared.text.Text.{Text}
use Rattle.line.proofs.TextLaws.{length_text}
use Rattle.editor.specs.Typing.{type_within, type_limited, delete_char, backspace}
use Rattle.editor.specs.Call.{TypeLimited, Backspace, DeleteChar, rule, apply}
use Rattle.editor.specs.Given.{without}

-- nothing is written
pub still : (s : Screen) {l : List ℕ} {h : Head} → length l ≡ SIZE → rows_of l ≡ s.rows → h ≡ s.head → Leaves s l l h
still s size rows is = record { becomes = record { size = size; front = refl; rows = rows }; head = is }

-- ---- the text of a line

module _ (u s : Screen) (t : Text) (holds : Holds t (content u) (index u)) (same : u ≡ s) where
  content_is : content s ≡ text_of t
  content_is = sym (holds.text ∙ ap content same)

  index_is : index s ≡ t.index
  index_is = sym (holds.at ∙ ap index same)

-- ---- without: at is the index, t' the text without the character there

module _ (u s : Screen) (t : Text) (at : ℕ) (holds : Holds t (content u) (index u)) (same : u ≡ s) where
  pub without_none : (l : List ℕ) (h : Head) → length l ≡ SIZE → rows_of l ≡ s.rows → h ≡ u.head → t.len ≤ at → Leaves (without s (content s) at) l l h
  unfolding without
  without_none l h size rows ih k =
      rw (content_is u s t holds same, le-ltb at (length (text_of t)) (omega (arith, length_text t)))
      (still s size rows (ih ∙ ap (λ (x : Screen). x.head) same))

  pub without_one : (l m : List ℕ) (g : Head) (t' : Text) → Holds t' (take at (text_of t) ++ drop (at + 1) (text_of t)) at
      → Leaves (splice s (text_of t') t'.index) l m g → at < t.len → Leaves (without s (content s) at) l m g
  unfolding without
  without_one l m g t' new left k =
      rw (content_is u s t holds same, lt-ltb at (length (text_of t)) (omega (arith, length_text t)), ← new.text, ← new.at) left

-- ---- type_within: h is the line's head

module _ (u s : Screen) (h : Head) (t : Text) (ch limit : ℕ) (holds : Holds t (content u) (index u)) (same : u ≡ s) (ih : h ≡ u.head) where
  head_is : h ≡ s.head
  head_is = ih ∙ ap (λ (x : Screen). x.head) same

  on : h.insert ≡ 1 → eqb s.head.insert 1 ≡ true
  on e = eq-eqb _ _ (ap (λ (x : Head). x.insert) (sym head_is) ∙ e)

  off : h.insert ≢ 1 → eqb s.head.insert 1 ≡ false
  off ne = ne_eqb _ _ (λ q. ne (ap (λ (x : Head). x.insert) head_is ∙ q))

  full : limit ≤ t.len → leb limit (length (text_of t)) ≡ true
  full k = le-leb limit (length (text_of t)) (omega (arith, length_text t))

  room : t.len < limit → leb limit (length (text_of t)) ≡ false
  room k = lt-leb limit (length (text_of t)) (omega (arith, length_text t))

  inside : t.index < t.len → ltb t.index (length (text_of t)) ≡ true
  inside k = lt-ltb t.index (length (text_of t)) (omega (arith, length_text t))

  behind : t.len ≤ t.index → ltb t.index (length (text_of t)) ≡ false
  behind k = le-ltb t.index (length (text_of t)) (omega (arith, length_text t))

  module _ (l : List ℕ) (size : length l ≡ SIZE) (rows : rows_of l ≡ s.rows) where
    pub insert_full : h.insert ≡ 1 → limit ≤ t.len → Leaves (type_within limit s (content s) (index s) ch) l l h
    unfolding type_within
    insert_full i k = rw (content_is u s t holds same, index_is u s t holds same, on i, full k) (still s size rows head_is)

    pub extend_full : h.insert ≢ 1 → t.len ≤ t.index → limit ≤ t.len → Leaves (type_within limit s (content s) (index s) ch) l l h
    unfolding type_within
    extend_full i j k = rw (content_is u s t holds same, index_is u s t holds same, off i, behind j, full k) (still s size rows head_is)

  -- t' is the text with the character
  module _ (t' : Text) (l m : List ℕ) (g : Head) (left : Leaves (splice s (text_of t') t'.index) l m g) where
    pub insert_done : Holds t' (take t.index (text_of t) ++ (ch ∷ drop t.index (text_of t))) (t.index + 1) → h.insert ≡ 1 → t.len < limit
        → Leaves (type_within limit s (content s) (index s) ch) l m g
    unfolding type_within
    insert_done new i k = rw (content_is u s t holds same, index_is u s t holds same, on i, room k, ← new.text, ← new.at) left

    pub replace_done : Holds t' (set (text_of t) t.index ch) (t.index + 1) → h.insert ≢ 1 → t.index < t.len
        → Leaves (type_within limit s (content s) (index s) ch) l m g
    unfolding type_within
    replace_done new i k = rw (content_is u s t holds same, index_is u s t holds same, off i, inside k, ← new.text, ← new.at) left

    pub extend_done : Holds t' (text_of t ++ (ch ∷ [])) (t.index + 1) → h.insert ≢ 1 → t.len ≤ t.index → t.len < limit
        → Leaves (type_within limit s (content s) (index s) ch) l m g
    unfolding type_within
    extend_done new i j k = rw (content_is u s t holds same, index_is u s t holds same, off i, behind j, room k, ← new.text, ← new.at) left

-- ---- type_limited: the screen has the head h and the rows of the record r, p is what is_printable has answered

pub limited_ignored : (l r : List ℕ) (h : Head) (s : Screen) (ch limit : ℕ) (p : Bool) → screen_with h r ≡ s → length l ≡ SIZE → rows_of l ≡ s.rows
    → p ≡ printable ch → not p ≡ true → Leaves (apply (TypeLimited ch limit) s) l l h
unfolding apply rule type_limited
limited_ignored l r h s ch limit p is size rows ep np = rw (sym ep ∙ not-true p np) (still s size rows (head_seen r h s is))

pub limited_done : (l m : List ℕ) (g : Head) (u s : Screen) (ch limit : ℕ) (p : Bool) → p ≡ printable ch → not p ≡ false → u ≡ s
    → Leaves (type_within limit u (content u) (index u) ch) l m g → Leaves (apply (TypeLimited ch limit) s) l m g
unfolding apply rule type_limited
limited_done l m g u s ch limit p ep np same left =
    rw (sym ep ∙ not-false p np) (subst (λ (x : Screen). Leaves (type_within limit x (content x) (index x) ch) l m g) same left)

-- ---- delete_char, backspace: e is the line that is edited

module _ (e u s : Screen) (t : Text) (same : e ≡ s) (is : u ≡ e) (holds : Holds t (content u) (index u)) where
  pub deleted : (l m : List ℕ) (g : Head) → Leaves (without e (content e) t.index) l m g → Leaves (apply DeleteChar s) l m g
  unfolding apply rule delete_char without
  deleted l m g left =
      rw (index_is u s t holds (is ∙ same)) (subst (λ (x : Screen). Leaves (without x (content x) t.index) l m g) same left)

  -- behind the left edge the cursor stands behind a character; h is the screen's head, in the record r
  module _ (r : List ℕ) (h : Head) (seen : screen_with h r ≡ s) where
    col_is : h.cursor.col ≡ s.head.cursor.col
    col_is = ap (λ (x : Head). x.cursor.col) (head_seen r h s seen)

    pub index_low : 0 < h.cursor.col → 1 ≤ t.index
    unfolding index
    index_low right =
        let w : ℕ = (s.head.cursor.row - start_of s s.head.cursor.row) * s.head.width in
        let i : min MAX-LOGICAL (w + s.head.cursor.col) ≡ t.index = index_is u s t holds (is ∙ same) in
        omega (arith, col_is)

    -- at is what `backspace_index` has answered
    pub backspaced : (l m : List ℕ) (g : Head) (at : ℕ) → at ≡ (if eqb h.cursor.col 0 then t.index else t.index - 1)
        → Leaves (without e (content e) at) l m g → Leaves (apply Backspace s) l m g
    unfolding apply rule backspace delete_char without
    backspaced l m g at which left =
        rw (content_is u s t holds (is ∙ same), index_is u s t holds (is ∙ same)) (go (ℕ_discrete h.cursor.col 0))
      where
        took : Leaves (without s (text_of t) at) l m g
        took = rw (content_is u s t holds (is ∙ same)) at (subst (λ (x : Screen). Leaves (without x (content x) at) l m g) same left)

        go : Dec (h.cursor.col ≡ 0) → Leaves (if eqb s.head.cursor.col 0 then (if ltb t.index (length (text_of t)) then splice s (take t.index (text_of t) ++ drop (t.index + 1) (text_of t)) t.index else s) else splice s (take (t.index - 1) (text_of t) ++ drop t.index (text_of t)) (t.index - 1)) l m g
        go (yes z) =
            let here : at ≡ t.index = which ∙ pick _ _ _ (eq-eqb h.cursor.col 0 z) in
            rw (eq-eqb s.head.cursor.col 0 (sym col_is ∙ z)) (rw here at took)
        go (no ne) =
            let low : 1 ≤ t.index = index_low (omega arith) in
            let before : at ≡ t.index - 1 = which ∙ skip _ _ _ (ne_eqb h.cursor.col 0 ne) in
            let next : t.index - 1 + 1 ≡ t.index = omega arith in
            let some : t.index - 1 < length (text_of t) = omega (arith, length_text t, t.within) in
            let cut : Leaves (without s (text_of t) (t.index - 1)) l m g = rw before at took in
            rw (ne_eqb s.head.cursor.col 0 (λ z. ne (col_is ∙ z))) (rw (lt-ltb (t.index - 1) (length (text_of t)) some, next) at cut)
