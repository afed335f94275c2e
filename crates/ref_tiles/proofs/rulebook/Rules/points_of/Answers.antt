use Rattle.std.proofs.Common.{rules}
use Rattle.ref_tiles.proofs.rulebook.Rules.points_of.Goals as goal

pub returns-in-Blank-clause-points : goal.returns-in-Blank-clause-points
returns-in-Blank-clause-points c = search rules
