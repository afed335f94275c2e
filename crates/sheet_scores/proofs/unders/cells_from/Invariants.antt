use Rattle.std.proofs.Common.{◌≡◌}
use Rattle.sheet_scores.specs.Unders.{cells_from}
use Rattle.sheet_scores.proofs.unders.cells_from.Given as goal

abbrev pub invariant-loop-k : goal.invariant-loop-k
invariant-loop-k l = l.cells.items ≡ cells_from l.board l.at l.dir l.k
