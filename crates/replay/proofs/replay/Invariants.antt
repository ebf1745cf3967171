-- Both counts stay at or below the calls read.
use Rattle.std.proofs.Common.{◌≤◌}
use Rattle.replay.proofs.replay.Given as goal

abbrev pub invariant-loop : goal.invariant-loop
invariant-loop g l = (l.tally.calls ≤ l.counter) × (l.tally.differ ≤ l.counter) × (l.tally.no_call ≤ l.counter)
