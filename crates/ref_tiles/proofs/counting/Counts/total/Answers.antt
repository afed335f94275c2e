use Rattle.std.proofs.Common.{rules}
use Rattle.ref_tiles.proofs.counting.Counts.total.Goals as goal

pub loop-number-init : goal.loop-number-init
loop-number-init c = search rules
