use Rattle.std.proofs.Common.{rules}
use Rattle.gcg_read.proofs.events.Events.push.Goals as goal

pub returns-clause-pushed : goal.returns-clause-pushed
returns-clause-pushed c = search rules
