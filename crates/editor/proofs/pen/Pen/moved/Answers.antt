-- `editor::pen::Pen::moved` meets its contract.
use Rattle.std.proofs.Common.{rules}
use Rattle.editor.proofs.pen.Pen.moved.Goals as goal

pub returns : goal.returns
returns c = search rules
