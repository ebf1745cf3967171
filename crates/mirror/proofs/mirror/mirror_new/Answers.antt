-- `mirror::mirror::mirror_new` meets its contract.
use Rattle.std.proofs.Common.{rules}
use Rattle.std.specs.Array.{IsWholeChunk}
use Rattle.mirror.specs.Layout.{MIRROR-SIZE}
use Rattle.mirror.proofs.MirrorLaws.{new_mirror_done}
use Rattle.mirror.proofs.mirror.mirror_new.Goals as goal

pub returns : goal.returns
returns c =
    let whole : IsWholeChunk c.args.mir.now c.in_ok-mir.mir.now MIRROR-SIZE = rw c.in_ok-mir.ensures.ok_part at c.as_mut_array.ensures.cases in
    search (rules, new_mirror_done)
