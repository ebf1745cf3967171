-- The editing content.
-- Assumes nothing.
use Prim.Native.Nat.{ℕ, zero, suc, ◌+◌, ◌-◌, ◌*◌, ◌≤◌, ◌<◌, min, max}
use mathlib.Core.Path.{◌≡◌, refl, sym, ap, ap₂, ◌∙◌, subst}
use mathlib.Core.List.{List, ◌∷◌, ◌++◌}
use native.Mathlib.Nat.{not-suc-le-zero, le_of_suc-le-suc}
use native.Mathlib.Omega.{arith}
use lib.Dec.{eqb}
use lib.ListN.{length, take, replicate}
use lib.Seq.{take-append-add}
use Rattle.grid.specs.Screen.{Row, Screen, trim}
use Rattle.octets.specs.Part.{write}
use Rattle.grid.specs.Record.{row_of, screen_with}
use Rattle.grid.specs.Facts.{ScreenFacts, Known}
use Rattle.grid.specs.declared.head.Head.{Head}
use Rattle.octets.proofs.Bools.{either}
use Rattle.std.proofs.lemmas.List.{drop-replicate}
use Rattle.octets.proofs.PartLaws.{write_front}
use Rattle.line.specs.Line.{MAX-LOGICAL, row_text, whole_rows, index, reach, content}
use Rattle.line.specs.Given.{SpanOf}
use Rattle.line.specs.declared.text.Text.{Text}
use Rattle.line.specs.Text.{Holds, text_of, line_from, column_on}
use Rattle.line.proofs.CharsLaws.{text_to, length_from, cut_from, fits_from, text_seen}
use Rattle.grid.proofs.ScreenLaws.{head_seen, facts_seen}

take_replicate : (k n v : ℕ) → k ≤ n → take k (replicate n v) ≡ replicate k v
take_replicate zero n v h = refl
take_replicate (suc k) zero v h = absurd (not-suc-le-zero h)
take_replicate (suc k) (suc n) v h = ap (λ (r : List ℕ). v ∷ r) (take_replicate k n v (le_of_suc-le-suc h))

column_to : (row end col w : ℕ) → col ≤ w → column_on row end col ≤ w
unfolding column_on
column_to row end col w h = either (λ (x : ℕ). x ≤ w) (eqb row end) col 0 h (omega arith)

-- ---- content_and_cursor: last is how far the last row reaches, n how many characters are read, and idx the cursor's index

module _ (s : Screen) (f : ScreenFacts s) (start end : ℕ) (sp : SpanOf s s.head.cursor.row start end) (tl co last n idx : ℕ)
    (et : tl ≡ length (trim (row_text s end))) (ec : co ≡ column_on s.head.cursor.row end s.head.cursor.col) (el : last ≡ max tl co)
    (en : n ≡ min MAX-LOGICAL ((end - start) * s.head.width + last)) (ei : idx ≡ min MAX-LOGICAL ((s.head.cursor.row - start) * s.head.width + s.head.cursor.col)) where
  from : start ≤ end
  from = omega arith

  below : end < 25
  below = omega arith

  to : last ≤ s.head.width
  to = omega (arith, text_to s end, column_to s.head.cursor.row end s.head.cursor.col s.head.width (omega arith))

  index_is : index s ≡ idx
  unfolding index
  index_is = rw (← sp.first) (sym ei)

  reach_is : reach s end ≡ last
  unfolding reach column_on
  reach_is = ap₂ max (sym et) (sym ec) ∙ sym el

  length_is : length (line_from s start n) ≡ n
  length_is = length_from s f start n (omega (arith, fits_from s f start end last from below to))

  content_is : content s ≡ line_from s start n ++ replicate (idx - n) 32
  unfolding content
  content_is =
      let c : take MAX-LOGICAL (whole_rows s start end ++ take last (row_text s end)) ≡ line_from s start n = rw en (cut_from s f start end last from below to) in
      rw (index_is, ← sp.first, ← sp.last, reach_is, c, length_is)

  holds : (t : Text) → t.bytes ≡ write (replicate MAX-LOGICAL 32) 0 (line_from s start n) → t.len ≡ max n idx → t.index ≡ idx → Holds t (content s) (index s)
  unfolding text_of
  holds t eb em ex =
      let cs : List ℕ = line_from s start n in
      let all : length {A = ℕ} (replicate MAX-LOGICAL 32) ≡ MAX-LOGICAL = refl in
      let rest : List ℕ = replicate (MAX-LOGICAL - n) 32 in
      let b : t.bytes ≡ cs ++ rest =
      eb ∙ write_front (replicate MAX-LOGICAL 32) cs (omega (arith, length_is))
      ∙ ap (λ (r : List ℕ). cs ++ r) (drop-replicate (length cs) MAX-LOGICAL 32 ∙ ap (λ (k : ℕ). replicate (MAX-LOGICAL - k) 32) length_is) in
      let k : t.len ≡ length cs + (idx - n) = omega (arith, length_is) in
      let whole : text_of t ≡ cs ++ replicate (idx - n) 32 =
      rw (b, k) (take-append-add cs rest (idx - n) ∙ ap (λ (r : List ℕ). cs ++ r) (take_replicate (idx - n) (MAX-LOGICAL - n) 32 (omega arith))) in
      record { text = whole ∙ sym content_is; at = ex ∙ sym index_is }

-- the same of a record that holds the line's screen, whose row `end` is x
pub content_end : (l : List ℕ) (h : Head) (s v : Screen) (x : Row) (start end tl co last n idx : ℕ) → Known l h → screen_with h l ≡ s → s ≡ v
    → SpanOf s s.head.cursor.row start end → x ≡ row_of l end → tl ≡ length (trim (take h.width x.chars)) → co ≡ column_on h.cursor.row end h.cursor.col
    → last ≡ max tl co → n ≡ min MAX-LOGICAL ((end - start) * h.width + last) → idx ≡ min MAX-LOGICAL ((h.cursor.row - start) * h.width + h.cursor.col)
    → (t : Text) → t.bytes ≡ write (replicate MAX-LOGICAL 32) 0 (line_from s start n) → t.len ≡ max n idx → t.index ≡ idx → Holds t (content v) (index v)
content_end l h s v x start end tl co last n idx known is same sp ex et ec el en ei t eb em ei' =
    let q : h ≡ s.head = head_seen l h s is in
    let f : ScreenFacts s = facts_seen l h s is known in
    let text : tl ≡ length (trim (row_text s end)) = et ∙ ap (λ (cs : List ℕ). length (trim cs)) (text_seen l h s known is x end (omega arith) ex) in
    subst (λ (y : Screen). Holds t (content y) (index y)) same
    (holds s f start end sp tl co last n idx text (rw q at ec) el (rw q at en) (rw q at ei) t eb em ei')
