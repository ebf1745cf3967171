-- How a contract says that a call answers and leaves what its definition gives: the number n, and the lent slices at exit.
-- Assumes nothing.
use Rattle.std.specs.Prelude.{ℕ, ◌≡◌, List}
use Rattle.editor.specs.Outcome.{Outcome}

-- a changing call that lends a record alone
pub record Answers (o : Outcome) (n : ℕ) (rec : List ℕ) : Type 0 where
  pub number : n ≡ o.number
  pub left : rec ≡ o.rec

-- a changing call that lends an output too
pub record Submits (o : Outcome) (n : ℕ) (rec out : List ℕ) : Type 0 where
  pub number : n ≡ o.number
  pub left : rec ≡ o.rec
  pub output : out ≡ o.out
