-- Document 02, (a): which bytes a waiting print takes, and what it answers. That it prints them is in the table of rules.
-- Assumes nothing.
use Rattle.std.specs.Prelude.{if◌then◌else◌, ℕ, zero, suc, ◌+◌, ◌*◌, false, List, [], length, take, leb}
use Rattle.grid.specs.Screen.{Screen}
use Rattle.editor.specs.Print.{print}

-- the scrolls that the printing rules make for bs
abbrev pub scrolls_of : Screen → List ℕ → ℕ
scrolls_of s bs = (print false s bs).scrolls

-- "stops before the byte that would scroll one row more": of the beginnings of bs with up to n bytes the longest whose printing makes at most
-- `rows` scrolls
unfoldable pub longest : Screen → ℕ → List ℕ → ℕ → List ℕ
longest s rows bs zero = []
longest s rows bs (suc n) = if leb (scrolls_of s (take (suc n) bs)) rows then take (suc n) bs else longest s rows bs n

-- the bytes taken
unfoldable pub taken : Screen → ℕ → List ℕ → List ℕ
taken s rows bs = longest s rows bs (length bs)

-- "It gives bytes taken + 65,536 × rows scrolled"
unfoldable pub waited : Screen → List ℕ → ℕ
waited s bs = length bs + 65536 * scrolls_of s bs
