use Rattle.std.proofs.Common.{rules}
use Rattle.gcg_read.proofs.faults.Why.name.Goals as goal

pub returns-in-NoColon : goal.returns-in-NoColon
returns-in-NoColon c = search rules
