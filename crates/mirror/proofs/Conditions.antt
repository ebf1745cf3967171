-- From the test of a mirror to the documents' conditions, and back.
-- Assumes nothing.
use Prim.Native.Nat.{ℕ}
use mathlib.Core.Path.{◌≡◌, ap}
use mathlib.Core.Bool.{true, not}
use mathlib.Core.List.{List}
use lib.ListN.{drop}
use borrow.Author.Tests.{eqb-true, not-true}
use Rattle.grid.specs.Record.{validb}
use Rattle.octets.proofs.Bools.{and_left, and_right, tests}
use Rattle.grid.proofs.Conditions.{record_facts, facts_record}
use Rattle.mirror.specs.Layout.{RECORD}
use Rattle.mirror.specs.Mirror.{mirror_frontb, shownb, mirrorb}
use Rattle.mirror.specs.Refusals.{ValidMirror}
use Rattle.mirror.proofs.OrderLaws.{at_most, not_later}

pub mirror_facts : (l : List ℕ) → mirrorb l ≡ true → ValidMirror l
unfolding mirrorb mirror_frontb shownb
mirror_facts l e =
    record {
      size = eqb-true _ _ (search (and_left, and_right) depth 8);
      length_high = eqb-true _ _ (search (and_left, and_right) depth 8);
      length_low = eqb-true _ _ (search (and_left, and_right) depth 8);
      version = eqb-true _ _ (search (and_left, and_right) depth 8);
      record_valid = record_facts (drop RECORD l) (search (and_left, and_right) depth 8);
      untouched = eqb-true _ _ (search (and_left, and_right) depth 8);
      behind = at_most _ _ (not-true _ (search (and_left, and_right) depth 8));
    }

pub facts_mirror : (l : List ℕ) → ValidMirror l → mirrorb l ≡ true
unfolding mirrorb mirror_frontb shownb
facts_mirror l v =
    let n = v.size in
    let a = v.length_high in
    let b = v.length_low in
    let o = v.version in
    let c : validb (drop RECORD l) ≡ true = facts_record (drop RECORD l) v.record_valid in
    let t = v.untouched in
    let e = ap not (not_later _ _ v.behind) in
    search tests depth 8
