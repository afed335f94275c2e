use Rattle.std.proofs.Common.{rules}
use Rattle.gcg_read.proofs.events.same_seat.Goals as goal

pub returns-in-First-First : goal.returns-in-First-First
returns-in-First-First c = search rules

pub returns-in-First-First-2 : goal.returns-in-First-First-2
returns-in-First-First-2 c = search rules
