-- New screen.
-- Assumes nothing.
use Prim.Native.Nat.{ℕ}
use mathlib.Core.Path.{◌≡◌, refl}
use mathlib.Core.List.{List}
use lib.ListN.{length}
use borrow.Author.Tests.{eq-eqb, ne_eqb}
use Rattle.octets.specs.Answer.{refused, unless, Writes}
use Rattle.octets.specs.Refusals.{first_of}
use Rattle.grid.specs.Layout.{SIZE}
use Rattle.grid.specs.Screen.{new_state}
use Rattle.grid.specs.Record.{state_bytes}
use Rattle.editor.specs.Outcome.{creating}

module _ (w sitting : ℕ) (l : List ℕ) where
  pub new_refused : (length l ≡ SIZE → ⊥) → Writes (creating w sitting l) (refused 1) l
  unfolding creating unless first_of
  new_refused ne = rw (ne_eqb (length l) SIZE ne) (record { number = refl; left = refl })

  pub new_done : (m : List ℕ) → length l ≡ SIZE → m ≡ state_bytes (new_state w sitting) → Writes (creating w sitting l) 0 m
  unfolding creating unless first_of
  new_done m len e = rw (eq-eqb (length l) SIZE len) (record { number = refl; left = e })
