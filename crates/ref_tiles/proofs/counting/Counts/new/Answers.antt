use Rattle.std.proofs.Common.{rules}
use Rattle.ref_tiles.specs.Counting.{no_tiles}
use Rattle.ref_tiles.proofs.counting.Counts.new.Goals as goal

pub returns : goal.returns
unfolding no_tiles
returns c = search rules
