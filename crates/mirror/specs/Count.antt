-- Document 02, (c): the shown and the newest pair, counted from the kinds, sittings and serials of the reports that arrived and not from the mirror.
-- Of arrival's definitions nothing is used here, the order of pairs included.
-- Assumes nothing.
use Rattle.std.specs.Prelude.{if◌then◌else◌, ℕ, ◌+◌, Bool, ◌&&◌, ◌||◌, ltb, eqb, get_or}
use mathlib.Core.List.{List, foldl}
use Rattle.grid.specs.Pair.{pair_at}
use Rattle.grid.specs.declared.pair.Pair.{Pair}
use Rattle.report.specs.Layout.{KIND, REPORT-PAIR}
use Rattle.report.specs.declared.kind.Kind.{Kind}
use Rattle.report.specs.declared.kind.Kind.TheVariants.{Step, Full}
use Rattle.report.specs.Kind.{kind_of}

-- p is later than q: of a larger sitting, or of the same sitting and a larger serial
unfoldable pub is_later : Pair → Pair → Bool
is_later p q = ltb q.sitting p.sitting || (eqb p.sitting q.sitting && ltb q.serial p.serial)

unfoldable pub later_of : Pair → Pair → Pair
later_of p q = if is_later p q then p else q

-- what is counted of a report
pub record Heard : Type 0 where
  pub kind : Kind
  pub pair : Pair

unfoldable pub heard_in : List ℕ → Heard
heard_in b = record { kind = kind_of (get_or b KIND 0); pair = pair_at b REPORT-PAIR }

pub record Count : Type 0 where
  pub shown : Pair
  pub newest : Pair

-- what is shown after a report of the pair p: a step is applied in the shown sitting at the next serial, a full one if its pair is later
unfoldable pub shown_after : Kind → Pair → Pair → Pair
shown_after Step p shown = if eqb p.sitting shown.sitting && eqb p.serial (shown.serial + 1) then p else shown
shown_after Full p shown = later_of p shown

-- the newest is the later of the two
unfoldable pub counted : Count → Heard → Count
counted t h = record { shown = shown_after h.kind h.pair t.shown; newest = later_of h.pair t.newest }

-- level: "shown and newest pair are the same"
unfoldable pub is_level : Count → Bool
is_level t = eqb t.shown.sitting t.newest.sitting && eqb t.shown.serial t.newest.serial

-- where the count begins: the number of the first sitting, and serial 0
unfoldable pub start : ℕ → Pair
start number = record { sitting = number; serial = 0 }

unfoldable pub tally : ℕ → List Heard → Count
tally number hs = foldl counted (record { shown = start number; newest = start number }) hs
