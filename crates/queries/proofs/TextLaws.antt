-- `text`: the text calls. l is a lent screen record, out a lent output.
-- Assumes nothing.
use Prim.Native.Nat.{ℕ, ◌≤◌}
use mathlib.Core.Path.{◌≡◌, ◌∙◌, ap, subst}
use mathlib.Core.List.{List}
use native.Mathlib.Omega.{arith}
use lib.Dec.{leb}
use lib.ListN.{length, take}
use mir.Syntax.{w32}
use mir.Val.{Fits}
use borrow.Author.Tests.{leb-true}
use Rattle.octets.specs.Answer.{refused, number_of, wrote, Writes}
use Rattle.octets.specs.declared.answer.Refusal.{Refusal}
use Rattle.octets.specs.Refusals.{first_of}
use Rattle.octets.proofs.Found.{unless_err, unless_ok}
use Rattle.grid.specs.Screen.{Screen}
use Rattle.grid.specs.Record.{screen_of}
use Rattle.grid.specs.Facts.{Valid}
use Rattle.grid.specs.Refusals.{record_tests}
use Rattle.grid.proofs.RefusalLaws.{lengths_known}
use Rattle.line.specs.Line.{MAX-LOGICAL, line_text}
use Rattle.line.specs.Text.{Reads}
use Rattle.line.specs.declared.text.Reading.{Reading}
use Rattle.editor.specs.Text.{snapshot}
use Rattle.editor.proofs.Answers.{snapshot_fits}
use Rattle.editor.specs.Outcome.{TextCall, LogicalText, Snapshot, room, text_of, texting}

module _ (q : TextCall) (l out : List ℕ) where
  pub text_refused : (e : Refusal) → number_of e ≡ first_of (record_tests (leb (room q) (length out)) l) → Writes (texting q l out) (refused (number_of e)) out
  unfolding texting
  text_refused e is = unless_err _ out _ e is

  text_done : 0 ≡ first_of (record_tests (leb (room q) (length out)) l) → (v : ℕ) (out' : List ℕ) → Writes (wrote (text_of q (screen_of l)) out) v out'
      → Writes (texting q l out) v out'
  unfolding texting
  text_done none v out' w = unless_ok _ out _ none v out' w

-- an output that is taken is long enough
pub output_long : (k : ℕ) (l out : List ℕ) → 0 ≡ first_of (record_tests (leb k (length out)) l) → k ≤ length out
output_long k l out none = leb-true _ _ (lengths_known (leb k (length out)) l none)

-- s is the screen of the record r in the slice l
module _ (l out r : List ℕ) (s : Screen) (same : r ≡ l) (is : s ≡ screen_of r) where
  seen : s ≡ screen_of l
  seen = is ∙ ap (λ (x : List ℕ). screen_of x) same

  pub line_written : (t : Reading) (v : ℕ) (out' : List ℕ) → 0 ≡ first_of (record_tests (leb MAX-LOGICAL (length out)) l) → Reads t (line_text s)
      → Writes (wrote (take t.len t.bytes) out) v out' → Writes (texting LogicalText l out) v out'
  unfolding room text_of
  line_written t v out' none reads w =
      text_done LogicalText l out none v out' (subst (λ (x : List ℕ). Writes (wrote x out) v out') (reads.text ∙ ap line_text seen) w)

  pub snapshot_written : (v : ℕ) (out' : List ℕ) → 0 ≡ first_of (record_tests (leb 2024 (length out)) l)
      → Writes (wrote (snapshot s) out) v out' → Writes (texting Snapshot l out) v out'
  unfolding room text_of
  snapshot_written v out' none w = text_done Snapshot l out none v out' (subst (λ (x : Screen). Writes (wrote (snapshot x) out) v out') seen w)

pub snapshot_small : (r out out' : List ℕ) (s : Screen) (v : ℕ) → Valid r → s ≡ screen_of r → Writes (wrote (snapshot s) out) v out' → Fits w32 v
unfolding wrote
snapshot_small r out out' s v f is w = record { fits = omega (arith, snapshot_fits s (rw is f.screen), w.number) }
