use Rattle.std.proofs.Common.{◌≡◌}
use Rattle.sheet_scores.specs.Positions.{played_tiles}
use Rattle.sheet_scores.proofs.positions.played_tiles.Given as goal

abbrev pub invariant-loop-k : goal.invariant-loop-k
invariant-loop-k l = l.tiles.items ≡ played_tiles l.picture l.at l.dir l.k
