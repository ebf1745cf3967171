-- Document 01, "Typing and line keys", with the limit of document 02, (g).
-- Assumes nothing.
use Rattle.std.specs.Prelude.{if◌then◌else◌, ℕ, ◌+◌, ◌-◌, List, [], ◌∷◌, ◌++◌, length, take, drop, set, leb, ltb, eqb}
use Rattle.grid.specs.Screen.{Screen, printable}
use Rattle.line.specs.Line.{MAX-LOGICAL, content, index}
use Rattle.line.specs.Splice.{splice}

-- ---- typing: cs is the editing content, i its index

-- insert puts the character at i, else it overwrites at i or extends at the end; a content that holds as many as the limit or more neither takes one in nor
-- grows
unfoldable pub type_within : ℕ → Screen → List ℕ → ℕ → ℕ → Screen
type_within limit s cs i ch =
    let full = leb limit (length cs) in
    if eqb s.head.insert 1 then (if full then s else splice s (take i cs ++ (ch ∷ drop i cs)) (i + 1))
    else if ltb i (length cs) then splice s (set cs i ch) (i + 1)
    else if full then s
    else splice s (cs ++ (ch ∷ [])) (i + 1)

unfoldable pub type_limited : ℕ → Screen → ℕ → Screen
type_limited limit s ch = if printable ch then type_within limit s (content s) (index s) ch else s

-- with the limit of document 01
unfoldable pub type_char : Screen → ℕ → Screen
type_char s ch = type_limited MAX-LOGICAL s ch

unfoldable pub delete_char : Screen → Screen
delete_char s =
    let cs = content s in
    let i = index s in
    if ltb i (length cs) then splice s (take i cs ++ drop (i + 1) cs) i else s

unfoldable pub backspace : Screen → Screen
backspace s =
    let cs = content s in
    let i = index s in
    if eqb s.head.cursor.col 0 then delete_char s else splice s (take (i - 1) cs ++ drop i cs) (i - 1)

unfoldable pub erase_to_end : Screen → Screen
erase_to_end s = splice s (take (index s) (content s)) (index s)
