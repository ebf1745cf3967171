-- Where the fields of a report stand, how long it is, and its version: the one place of the definitions that names them.
-- `src/layout.rt` has the same names.
-- Assumes nothing.
use Rattle.std.specs.Prelude.{ℕ}

abbrev pub REPORT-VERSION : ℕ
REPORT-VERSION = 2

abbrev pub KIND : ℕ
KIND = 3

-- serial and sitting
abbrev pub REPORT-PAIR : ℕ
REPORT-PAIR = 4

abbrev pub MASK : ℕ
MASK = 12

-- the record's bytes 3 to 8
abbrev pub HEAD : ℕ
HEAD = 16

abbrev pub ROWS : ℕ
ROWS = 22

-- the bytes of a row: flag, 80 characters, 80 attributes
abbrev pub ROW-SIZE : ℕ
ROW-SIZE = 161

-- the longest report, with all 25 rows: the shortest output that is taken
abbrev pub LONGEST : ℕ
LONGEST = 4047

-- the kinds
abbrev pub STEP : ℕ
STEP = 1

abbrev pub FULL : ℕ
FULL = 2

-- the mask of all 25 rows
abbrev pub ALL-ROWS : ℕ
ALL-ROWS = 33554431
