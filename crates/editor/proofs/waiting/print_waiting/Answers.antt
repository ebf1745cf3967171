-- `editor::waiting::print_waiting` meets its contract.
use Rattle.std.proofs.Common.{rules}
use Rattle.editor.proofs.PrintLaws.{piece_start}
use Rattle.editor.proofs.WaitingLaws.{waits_end, waits_stop, more_most, waiting_turn}
use Rattle.editor.proofs.waiting.print_waiting.Goals as goal

pub loop-i-init : goal.loop-i-init
loop-i-init c = (search (rules, piece_start), search rules)

pub returns-then-to-i : goal.returns-then-to-i
returns-then-to-i c = search (rules, waits_stop)

pub loop-i-preserved : goal.loop-i-preserved
loop-i-preserved c = (search (rules, waiting_turn), search (rules, more_most))

pub returns : goal.returns
returns c = search (rules, waits_end)
