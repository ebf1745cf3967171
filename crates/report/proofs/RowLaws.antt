-- `row`: a row as a report carries it, read and written.
-- Assumes nothing.
use Prim.Native.Nat.{ℕ, ◌+◌, ◌<◌}
use mathlib.Core.Path.{◌≡◌, refl, ap, ◌∙◌}
use mathlib.Core.List.{List, [], ◌∷◌, ◌++◌, append-nil}
use native.Mathlib.Omega.{arith}
use lib.ListN.{length, get_or, take, drop, set, length-append, drop_of_length-le}
use lib.Seq.{take-take}
use denote.Bor.{Bor}
use Rattle.std.specs.Prelude.{Option, Some, MatchOption}
use Rattle.std.specs.Array.{IsFirstChunk}
use Rattle.std.proofs.lemmas.Option.{MatchOption-at_some}
use Rattle.octets.specs.Part.{window, write}
use Rattle.octets.proofs.PartLaws.{write_append, set_write, write_front}
use Rattle.grid.specs.Screen.{Row}
use Rattle.grid.specs.Record.{row_from}
use Rattle.grid.proofs.RowLaws.{row_eq}
use Rattle.report.specs.Layout.{ROW-SIZE}
use Rattle.report.specs.Report.{row_bytes, row_in}

-- the 80 bytes from an index on, as the code reads them
pub row_seen : (b : List ℕ) (x : Row) (o p : Option (Bor (List ℕ))) (cs as' : Bor (List ℕ)) → x ≡ record { flag = get_or b 0 0; chars = cs.now; attrs = as'.now }
    → o ≡ Some cs → p ≡ Some as'
    → MatchOption o (length (take 160 (drop 1 b)) < 80) (λ (y : Bor (List ℕ)). IsFirstChunk (take 160 (drop 1 b)) y.now 80)
    → MatchOption p (length (take 80 (drop 81 b)) < 80) (λ (y : Bor (List ℕ)). IsFirstChunk (take 80 (drop 81 b)) y.now 80)
    → x ≡ row_in b 0
unfolding row_in row_from window
row_seen b x o p cs as' e ec ea c a =
    e
    ∙ row_eq _ _ refl ((MatchOption-at_some _ _ _ ec c).same ∙ take-take 80 160 (drop 1 b) (omega arith))
    ((MatchOption-at_some _ _ _ ea a).same ∙ take-take 80 80 (drop 81 b) (omega arith))

-- every byte is written
written_whole : (o s : List ℕ) → length s ≡ length o → write o 0 s ≡ s
written_whole o s e = write_front o s (omega arith) ∙ ap (λ (z : List ℕ). s ++ z) (drop_of_length-le o {i = length s} (omega arith)) ∙ append-nil s

pub row_written : (o m m' cs as' : List ℕ) (x : Row) (flag : ℕ) → length o ≡ ROW-SIZE → flag ≡ x.flag → (cs ≡ x.chars) × (length x.chars ≡ 80)
    → (as' ≡ x.attrs) × (length x.attrs ≡ 80) → m ≡ write (set o 0 flag) 1 cs → m' ≡ write m 81 as' → m' ≡ row_bytes x
unfolding row_bytes
row_written o m m' cs as' x flag len ef c a e e' =
    let n : 81 ≡ 0 + length (x.flag ∷ x.chars) = omega (arith, c.1) in
    let chars : m ≡ write o 0 (x.flag ∷ x.chars) = rw (e, ef, c.0, set_write o 0 x.flag) (write_append o 0 (x.flag ∷ []) x.chars) in
    let attrs : m' ≡ write o 0 (x.flag ∷ (x.chars ++ x.attrs)) = rw (e', chars, a.0, n) (write_append o 0 (x.flag ∷ x.chars) x.attrs) in
    attrs ∙ written_whole o (x.flag ∷ (x.chars ++ x.attrs)) (simp length-append (omega (arith, c.1, a.1)))
