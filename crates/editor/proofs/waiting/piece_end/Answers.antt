-- `editor::waiting::piece_end` meets its contract.
use Rattle.std.proofs.Common.{rules}
use Rattle.editor.proofs.WaitingLaws.{reaches_far, reaches_none, reaches_one}
use Rattle.editor.proofs.waiting.piece_end.Goals as goal

pub returns-then-left-gt0 : goal.returns-then-left-gt0
returns-then-left-gt0 c = search (rules, reaches_far)

pub returns-then-byte_scrolls-gt0 : goal.returns-then-byte_scrolls-gt0
returns-then-byte_scrolls-gt0 c = search (rules, reaches_none)

pub returns-else-byte_scrolls-gt0 : goal.returns-else-byte_scrolls-gt0
returns-else-byte_scrolls-gt0 c = search (rules, reaches_one)
