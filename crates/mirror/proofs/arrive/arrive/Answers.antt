-- `mirror::arrive::arrive` meets its contract.
use Rattle.std.proofs.Common.{rules, arith, ◌≡◌, ◌∙◌, ap, length, drop}
use Rattle.grid.specs.Record.{pair_of}
use Rattle.report.proofs.Conditions.{report_facts}
use Rattle.mirror.specs.Layout.{MIRROR-SIZE, RECORD}
use Rattle.mirror.proofs.ArriveLeft.{mirror_refused, report_refused, all_bytes, noted_left, wide_refused, applied_left}
use Rattle.mirror.proofs.arrive.arrive.Goals as goal

pub returns-then-not-mirror_ok : goal.returns-then-not-mirror_ok
returns-then-not-mirror_ok c = search (rules, mirror_refused)

pub returns-in_err-f : goal.returns-in_err-f
returns-in_err-f c =
    let len : length c.args.mir.now ≡ MIRROR-SIZE = omega arith in
    let w = report_refused _ _ len c.if-not-mirror_ok.ensures _ c.report.ensures _ c.in_err-f.ensures.value in
    search rules

pub returns-then-not-due : goal.returns-then-not-due
returns-then-not-due c =
    let len : length c.args.mir.now ≡ MIRROR-SIZE = omega arith in
    let bytes = all_bytes c.args.mir.now c.fits-mir in
    let read = rw c.in_ok-f.ensures.ok_part at c.report.ensures in
    let at : c.read_pair-shown.result ≡ pair_of (drop RECORD c.args.mir.now) = c.read_pair-shown.ensures ∙ ap pair_of c.record.ensures in
    search (rules, noted_left _ _ len c.if-not-mirror_ok.ensures read.0 _ read.1 _ at)

pub returns-then-width_without_rows : goal.returns-then-width_without_rows
returns-then-width_without_rows c =
    let len : length c.args.mir.now ≡ MIRROR-SIZE = omega arith in
    let read = rw c.in_ok-f.ensures.ok_part at c.report.ensures in
    let at : c.read_pair-shown.result ≡ pair_of (drop RECORD c.args.mir.now) = c.read_pair-shown.ensures ∙ ap pair_of c.record.ensures in
    search (rules, wide_refused _ _ len c.if-not-mirror_ok.ensures read.0 _ read.1 _ at)

pub show-requires : goal.show-requires
show-requires c =
    let read = rw c.in_ok-f.ensures.ok_part at c.report.ensures in
    (report_facts _ read.0, read.1)

pub returns : goal.returns
returns c =
    let len : length c.args.mir.now ≡ MIRROR-SIZE = omega arith in
    let read = rw c.in_ok-f.ensures.ok_part at c.report.ensures in
    let part = (rw c.unwrap.ensures at c.last_chunk_mut.ensures.cases).1.same in
    let at : c.read_pair-shown.result ≡ pair_of (drop RECORD c.args.mir.now) = c.read_pair-shown.ensures ∙ ap pair_of c.record.ensures in
    search (rules, applied_left _ _ len c.if-not-mirror_ok.ensures read.0 _ read.1 _ at)
