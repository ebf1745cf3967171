-- Where the fields of a screen record stand, how long it is, and its version: the one place of the definitions that names them.
-- `src/layout.rt` has the same names.
-- Assumes nothing.
use Rattle.std.specs.Prelude.{ℕ}

abbrev pub SIZE : ℕ
SIZE = 4046

abbrev pub VERSION : ℕ
VERSION = 2

-- width, cursor row, cursor column, insert and cr, keys on, attribute
abbrev pub HEAD : ℕ
HEAD = 3

-- serial and sitting
abbrev pub PAIR : ℕ
PAIR = 9

abbrev pub TOUCHED : ℕ
TOUCHED = 17

abbrev pub FLAGS : ℕ
FLAGS = 21

abbrev pub CHARS : ℕ
CHARS = 46

abbrev pub ATTRS : ℕ
ATTRS = 2046

-- masks of 25 rows are below it: 2 ^ 25
abbrev pub MASKS : ℕ
MASKS = 33554432

-- serials and sittings are below it: 2 ^ 32
abbrev pub SERIALS : ℕ
SERIALS = 4294967296
