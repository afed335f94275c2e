use Rattle.std.proofs.Common.{rules}
use Rattle.ref_tiles.proofs.counting.Counts.take.Goals as goal

pub returns-clause-taken : goal.returns-clause-taken
returns-clause-taken c = search rules
