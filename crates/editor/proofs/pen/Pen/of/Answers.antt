-- `editor::pen::Pen::of` meets its contract.
use Rattle.std.proofs.Common.{rules}
use Rattle.editor.proofs.pen.Pen.of.Goals as goal

pub returns : goal.returns
returns c = search rules
