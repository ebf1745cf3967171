-- The characters of a text after each of its methods.
-- Assumes nothing.
use Prim.Native.Nat.{ℕ, ◌+◌, ◌-◌, ◌<◌}
use mathlib.Core.Path.{◌≡◌, sym, ap, ap₂, ◌∙◌}
use mathlib.Core.List.{List, [], ◌∷◌, ◌++◌}
use native.Mathlib.Numerals.{add-one}
use native.Mathlib.Omega.{arith}
use lib.ListN.{length, get_or, take, drop, set, length-drop}
use lib.Seq.{take-take, take-suc, take-suc-set, take-set-lt, set_at, append_snoc, length-take-le}
use Rattle.std.specs.List.{copy_within}
use Rattle.std.proofs.lemmas.List.Edits.{take-paste}
use Rattle.octets.proofs.PartLaws.{drop_take}
use Rattle.line.specs.Line.{MAX-LOGICAL}
use Rattle.line.specs.Text.{Holds, text_of}
use Rattle.line.specs.declared.text.Text.{Text}

pub length_text : (t : Text) → length (text_of t) ≡ t.len
unfolding text_of
length_text t = length-take-le t.len t.bytes (omega arith)

-- ---- what the methods return: u, made of t

module _ (t u : Text) (ch : ℕ) where
  pub extended_end : t.len < MAX-LOGICAL → u.bytes ≡ set t.bytes t.len ch → u.len ≡ t.len + 1 → u.index ≡ t.index + 1
      → Holds u (text_of t ++ (ch ∷ [])) (t.index + 1)
  unfolding text_of
  extended_end h eb en ei = record { text = rw (eb, en, add-one t.len) (take-suc-set t.bytes t.len ch (omega arith)); at = ei }

  pub replaced_end : t.index < t.len → u.bytes ≡ set t.bytes t.index ch → u.len ≡ t.len → u.index ≡ t.index + 1
      → Holds u (set (text_of t) t.index ch) (t.index + 1)
  unfolding text_of
  replaced_end h eb en ei = record { text = rw (eb, en) (take-set-lt t.len t.bytes t.index ch h); at = ei }

  pub inserted_end : (m : List ℕ) → t.len < MAX-LOGICAL → m ≡ copy_within t.bytes t.index t.len (t.index + 1)
      → u.bytes ≡ set m t.index ch → u.len ≡ t.len + 1 → u.index ≡ t.index + 1
      → Holds u (take t.index (text_of t) ++ (ch ∷ drop t.index (text_of t))) (t.index + 1)
  unfolding text_of
  inserted_end m h em eb en ei =
      let b : List ℕ = t.bytes in
      let i : ℕ = t.index in
      let v : List ℕ = take (t.len - i) (drop i b) in
      let n : t.len + 1 ≡ i + 1 + (t.len - i) = omega arith in
      let moved : take (t.len + 1) m ≡ take (i + 1) b ++ v =
      ap₂ take n em ∙ take-paste b (i + 1) (drop i b) (t.len - i) (omega arith) (omega (arith, length-drop i b)) in
      let split : take (i + 1) b ≡ take i b ++ (get_or b i 0 ∷ []) = rw add-one (take-suc b i 0 (omega arith)) in
      record {
        text =
            ap₂ take en eb ∙ take-set-lt (t.len + 1) m i ch (omega arith)
            ∙ ap (λ (x : List ℕ). set x i ch) (moved ∙ ap (λ (x : List ℕ). x ++ v) split ∙ append_snoc (take i b) (get_or b i 0) v)
            ∙ set_at (take i b) (get_or b i 0) v ch i (length-take-le i b (omega arith))
            ∙ ap₂ (λ (x y : List ℕ). x ++ (ch ∷ y)) (sym (take-take i t.len b t.within)) (sym (drop_take i t.len b));
        at = ei;
      }

pub removed_end : (t u : Text) (at : ℕ) → at < t.len → u.bytes ≡ copy_within t.bytes (at + 1) t.len at → u.len ≡ t.len - 1 → u.index ≡ at
    → Holds u (take at (text_of t) ++ drop (at + 1) (text_of t)) at
unfolding text_of
removed_end t u at h eb en ei =
    let b : List ℕ = t.bytes in
    let n : t.len - 1 ≡ at + (t.len - (at + 1)) = omega arith in
    record {
      text =
          ap₂ take (en ∙ n) eb ∙ take-paste b at (drop (at + 1) b) (t.len - (at + 1)) (omega arith) (omega (arith, length-drop (at + 1) b))
          ∙ ap₂ (λ (x y : List ℕ). x ++ y) (sym (take-take at t.len b (omega arith))) (sym (drop_take (at + 1) t.len b));
      at = ei;
    }

pub cut_end : (t u : Text) → u.bytes ≡ t.bytes → u.len ≡ t.index → u.index ≡ t.index → Holds u (take t.index (text_of t)) t.index
unfolding text_of
cut_end t u eb en ei = record { text = rw (eb, en) (sym (take-take t.index t.len t.bytes t.within)); at = ei }
