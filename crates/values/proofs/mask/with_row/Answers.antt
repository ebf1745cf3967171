-- `values::mask::with_row` meets its contract.
use Rattle.std.proofs.Common.{rules}
use Rattle.values.proofs.MaskLaws.{row_set}
use Rattle.values.proofs.mask.with_row.Goals as goal

pub returns : goal.returns
returns c = search (rules, row_set)
