-- `moves::text::shown_length` meets its contract.
use Rattle.std.proofs.Common.{rules}
use Rattle.editor.specs.Text.{is_white}
use Rattle.moves.proofs.TextLaws.{shown_is}
use Rattle.moves.proofs.text.shown_length.Goals as goal

pub returns : goal.returns
returns c = shown_is _ _ _ _ (search rules) (c.length_without.ensures.length is_white (search rules)) (search rules)
