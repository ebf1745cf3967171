-- `editor::print::print_piece` meets its contract.
use Rattle.std.proofs.Common.{rules}
use Rattle.editor.proofs.PrintLaws.{piece_start, piece_turn, moves_inside, turn_fits}
use Rattle.editor.proofs.print.print_piece.Goals as goal

pub loop-b-init : goal.loop-b-init
loop-b-init c = (search (rules, piece_start), search rules)

pub moved-pen-requires : goal.moved-pen-requires
moved-pen-requires c = search (rules, moves_inside)

pub overflow_add-scrolls : goal.overflow_add-scrolls
overflow_add-scrolls c = search (rules, turn_fits)

pub loop-b-preserved : goal.loop-b-preserved
loop-b-preserved c = (search (rules, piece_turn), search rules)
