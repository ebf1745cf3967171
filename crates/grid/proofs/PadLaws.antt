-- `pad`: a row's 80 bytes, made from fewer.
-- Assumes nothing.
use mathlib.Core.Path.{◌≡◌, sym, ap, ◌∙◌}
use mathlib.Core.List.{List, ◌++◌}
use Prim.Native.Nat.{ℕ, zero, ◌+◌, ◌-◌, ◌≤◌}
use native.Mathlib.Omega.{arith}
use lib.ListN.{length, replicate, length-append, length-replicate}
use lib.Seq.{drop-append-le}
use Rattle.std.proofs.lemmas.List.{drop-replicate}
use Rattle.grid.specs.Screen.{padded, spaced}
use Rattle.octets.specs.Part.{write}
use Rattle.octets.proofs.PartLaws.{write_append, write_front, write_write}
use Rattle.grid.proofs.RowLaws.{length_padded}

-- a text written over spaces
text_padded : (w : ℕ) (s : List ℕ) → length s ≤ w → w ≤ 80
    → write (padded w 32) zero s ≡ spaced w s
unfolding padded spaced
text_padded w s h k =
    let z : List ℕ = replicate (80 - w) 0 in
    let y : List ℕ = replicate w 32 in
    let n : length y ≡ w = length-replicate w 32 in
    write_front (y ++ z) s (simp length-append (omega arith))
    ∙ ap (λ (r : List ℕ). s ++ r) (drop-append-le (length s) y z (omega arith) ∙ ap (λ (r : List ℕ). r ++ z) (drop-replicate (length s) w 32))

pub text_written : (l text m₁ m₂ : List ℕ) (at w : ℕ) → w ≤ 80 → length text ≤ w
    → m₁ ≡ write l at (padded w 32) → m₂ ≡ write m₁ at text → m₂ ≡ write l at (spaced w text)
text_written l text m₁ m₂ at w k h e₁ e₂ =
    let p : length (padded w 32) ≡ 80 = length_padded w 32 k in
    e₂ ∙ ap (λ (m : List ℕ). write m at text) e₁ ∙ write_write l at (padded w 32) text (omega arith) ∙ ap (write l at) (text_padded w text h k)

pub padded_write : (l m₂ m₃ : List ℕ) (at w v : ℕ) → m₂ ≡ write l at (replicate w v) → m₃ ≡ write m₂ (at + w) (replicate (80 - w) 0)
    → m₃ ≡ write l at (padded w v)
unfolding padded
padded_write l m₂ m₃ at w v e₂ e₃ =
    e₃ ∙ ap (λ (m : List ℕ). write m (at + w) (replicate (80 - w) 0)) e₂
    ∙ ap (λ (k : ℕ). write (write l at (replicate w v)) (at + k) (replicate (80 - w) 0)) (sym (length-replicate w v))
    ∙ write_append l at (replicate w v) (replicate (80 - w) 0)
