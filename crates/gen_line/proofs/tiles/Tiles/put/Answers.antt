use Rattle.std.proofs.Common.{rules}
use Rattle.gen_line.specs.Model.{less}
use Rattle.gen_line.proofs.tiles.Tiles.put.Goals as goal

pub returns-clause-rack : goal.returns-clause-rack
unfolding less
returns-clause-rack c = search rules
