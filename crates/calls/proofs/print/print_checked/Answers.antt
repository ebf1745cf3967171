-- `calls::print::print_checked` meets its contract.
use Rattle.std.proofs.Common.{refl}
use Rattle.editor.specs.Call.{PrintChecked, lengths, apply, answer, rule, cr_left, cr_after}
use Rattle.calls.proofs.print.print_checked.Goals as goal

pub returns : goal.returns
unfolding lengths apply answer rule cr_left cr_after
returns c =
    c.printed.ensures (PrintChecked c.args.bytes.now) (record { plain = record { tested = record { lengths = refl; own = c.whole_line_ends.ensures }; answer = refl; bit = refl }; same = λ s. refl })
