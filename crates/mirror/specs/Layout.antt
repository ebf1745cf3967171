-- Where the fields of a mirror stand, how long it is, and its version: the one place of the definitions that names them.
-- `src/layout.rt` has the same names.
-- Assumes nothing.
use Rattle.std.specs.Prelude.{ℕ}

abbrev pub MIRROR-SIZE : ℕ
MIRROR-SIZE = 4057

abbrev pub MIRROR-VERSION : ℕ
MIRROR-VERSION = 2

-- the newest serial and sitting
abbrev pub NEWEST : ℕ
NEWEST = 3

-- a screen record
abbrev pub RECORD : ℕ
RECORD = 11
