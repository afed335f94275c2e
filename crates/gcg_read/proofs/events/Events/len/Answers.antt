use Rattle.std.proofs.Common.{rules}
use Rattle.gcg_read.proofs.events.Events.len.Goals as goal

pub returns : goal.returns
returns c = search rules
