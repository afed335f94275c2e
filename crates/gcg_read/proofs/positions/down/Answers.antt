use Rattle.std.proofs.Common.{rules}
use Rattle.gcg_read.proofs.positions.down.Goals as goal

pub returns : goal.returns
returns c = search rules
