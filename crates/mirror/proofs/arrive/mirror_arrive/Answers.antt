-- `mirror::arrive::mirror_arrive` meets its contract.
use Rattle.std.specs.Array.{IsWholeChunk}
use Rattle.mirror.specs.Layout.{MIRROR-SIZE}
use Rattle.mirror.proofs.arrive.mirror_arrive.Goals as goal

pub returns : goal.returns
returns c =
    let whole : IsWholeChunk c.args.mir.now c.in_ok-mir.mir.now MIRROR-SIZE = rw c.in_ok-mir.ensures.ok_part at c.as_mut_array.ensures.cases in
    rw whole.same at c.arrive.ensures
