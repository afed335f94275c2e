use Rattle.std.proofs.Common.{rules}
use Rattle.gcg_read.proofs.events.Seat.other.Goals as goal

pub returns-in-First : goal.returns-in-First
returns-in-First c = search rules
