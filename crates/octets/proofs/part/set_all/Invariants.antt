-- The loop of `octets::part::set_all`.
use Rattle.std.proofs.Common.{◌≡◌, take, replicate}
use Rattle.octets.proofs.part.set_all.Given as goal

abbrev pub invariant-loop-byte : goal.invariant-loop-byte
invariant-loop-byte l = take l.byte-index l.byte-items ≡ replicate l.byte-index l.v
