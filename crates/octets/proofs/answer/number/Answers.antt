-- `octets::answer::number` meets its contract. This goal is found without an answer too; it stands here so that a wrong number falls at it.
use Rattle.std.proofs.Common.{rules}
use Rattle.octets.proofs.answer.number.Goals as goal

pub returns-in-Err : goal.returns-in-Err
returns-in-Err c = search rules
