-- `reading`: the text of a line, and how it is handed out.
-- Assumes nothing.
use Prim.Native.Nat.{ℕ, ◌+◌, ◌-◌, ◌*◌, ◌≤◌, ◌<◌, min}
use mathlib.Core.Path.{◌≡◌, refl, sym, ap, ◌∙◌}
use mathlib.Core.List.{List, ◌++◌}
use native.Mathlib.Omega.{arith}
use lib.ListN.{length, take, drop, replicate}
use lib.Seq.{take-take, take_at, length-take-le}
use Rattle.grid.specs.Screen.{Row, Screen, trim, is_space}
use Rattle.octets.specs.Answer.{wrote, Writes}
use Rattle.octets.specs.Part.{write}
use Rattle.grid.specs.Record.{row_of, screen_with}
use Rattle.grid.specs.Facts.{ScreenFacts, Known}
use Rattle.grid.specs.declared.head.Head.{Head}
use Rattle.grid.proofs.Trim.{trim_front}
use Rattle.octets.proofs.PartLaws.{write_front}
use Rattle.line.specs.Line.{MAX-LOGICAL, row_text, reading}
use Rattle.line.specs.Text.{Reads, line_from}
use Rattle.line.specs.declared.text.Reading.{Reading}
use Rattle.line.proofs.CharsLaws.{trim_to, text_to, length_from, cut_from, fits_from, width_seen, text_seen}
use Rattle.grid.proofs.ScreenLaws.{facts_seen}

-- ---- what is left of a list without its trailing spaces is its beginning

pub trim_take : (xs : List ℕ) → take (length (trim xs)) xs ≡ trim xs
unfolding trim
trim_take xs = trim_front is_space xs

-- ---- read_stripped: last is the length of the last row's text, n of all that is read

module _ (s : Screen) (f : ScreenFacts s) (start end last n : ℕ) (from : start ≤ end) (below : end < 25) (el : last ≡ length (trim (row_text s end)))
    (en : n ≡ min MAX-LOGICAL ((end - start) * s.head.width + last)) where
  to : last ≤ s.head.width
  to = omega (arith, text_to s end)

  reading_is : reading s start end ≡ trim (line_from s start n)
  unfolding reading
  reading_is =
      let t : trim (row_text s end) ≡ take last (row_text s end) = sym (ap (λ (k : ℕ). take k (row_text s end)) el ∙ trim_take (row_text s end)) in
      rw (t, en) (ap trim (cut_from s f start end last from below to))

  reads : (t : Reading) → t.bytes ≡ write (replicate MAX-LOGICAL 32) 0 (line_from s start n) → t.len ≡ length (trim (take n t.bytes)) → Reads t (reading s start end)
  reads t eb em =
      let cs : List ℕ = line_from s start n in
      let size : length cs ≡ n = length_from s f start n (omega (arith, fits_from s f start end last from below to)) in
      let all : length {A = ℕ} (replicate MAX-LOGICAL 32) ≡ MAX-LOGICAL = refl in
      let b : t.bytes ≡ cs ++ drop (length cs) (replicate MAX-LOGICAL 32) = eb ∙ write_front (replicate MAX-LOGICAL 32) cs (omega arith) in
      let whole : take n t.bytes ≡ cs = ap (take n) b ∙ take_at cs (drop (length cs) (replicate MAX-LOGICAL 32)) n size in
      let is : trim (take n t.bytes) ≡ reading s start end = ap trim whole ∙ sym reading_is in
      let less : t.len ≤ n = omega (arith, trim_to n t.bytes) in
      record {
        text = sym (take-take t.len n t.bytes less) ∙ ap (λ (k : ℕ). take k (take n t.bytes)) em ∙ trim_take (take n t.bytes) ∙ is;
        count = em ∙ ap length is;
      }

-- the same of a record that holds the screen, whose row `end` is x
pub reading_end : (l : List ℕ) (h : Head) (s : Screen) (x : Row) (start end last n : ℕ) → Known l h → screen_with h l ≡ s → start ≤ end → end < 25 → x ≡ row_of l end
    → last ≡ length (trim (take h.width x.chars)) → n ≡ min MAX-LOGICAL ((end - start) * h.width + last)
    → (t : Reading) → t.bytes ≡ write (replicate MAX-LOGICAL 32) 0 (line_from s start n) → t.len ≡ length (trim (take n t.bytes)) → Reads t (reading s start end)
reading_end l h s x start end last n known is from below ex el en =
    reads s (facts_seen l h s is known) start end last n from below
    (el ∙ ap (λ (cs : List ℕ). length (trim cs)) (text_seen l h s known is x end below ex)) (rw (width_seen l h s known is) at en)

-- ---- `put_reading`

pub reading_put : (t : Reading) (out out' : List ℕ) → MAX-LOGICAL ≤ length out
    → out' ≡ write out 0 (take t.len t.bytes) → Writes (wrote (take t.len t.bytes) out) t.len out'
unfolding wrote
reading_put t out out' long e =
    let k : length (take t.len t.bytes) ≡ t.len = length-take-le t.len t.bytes (omega arith) in
    record { number = sym k; left = e ∙ write_front out (take t.len t.bytes) (omega arith) }
