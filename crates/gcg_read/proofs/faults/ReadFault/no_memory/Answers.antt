use Rattle.std.proofs.Common.{rules}
use Rattle.gcg_read.proofs.faults.ReadFault.no_memory.Goals as goal

pub returns : goal.returns
returns c = search rules
