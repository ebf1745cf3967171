-- `grid::row::length_without` meets its contract.
use Rattle.std.proofs.Common.{rules}
use Rattle.std.proofs.iter.runs.Sources.{ranges}
use Rattle.grid.proofs.Trim.{length_found}
use Rattle.grid.proofs.row.length_without.Goals as goal

pub returns-clause-length : goal.returns-clause-length
returns-clause-length g c = λ p is. length_found p _ _ (search (rules, ranges)) (search (rules, ranges, is)) (search (rules, ranges, is))
