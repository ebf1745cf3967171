-- `calls::print::print_bytes` meets its contract.
use Rattle.std.proofs.Common.{refl}
use Rattle.octets.specs.Refusals.{first_of}
use Rattle.editor.specs.Call.{PrintBytes, lengths, own, apply, answer, rule, cr_left, cr_after}
use Rattle.calls.proofs.print.print_bytes.Goals as goal

pub returns : goal.returns
unfolding first_of lengths own apply answer rule cr_left cr_after
returns c =
    c.printed.ensures (PrintBytes c.args.bytes.now) (record { plain = record { tested = record { lengths = refl; own = λ q. refl }; answer = refl; bit = refl }; same = λ s. refl })
