use Rattle.std.proofs.Common.{rules}
use Rattle.deal_steps.proofs.known.Known.turn.Goals as goal

pub returns-in-Lays : goal.returns-in-Lays
returns-in-Lays c = search rules

pub returns-in-ThrowsUnknown : goal.returns-in-ThrowsUnknown
returns-in-ThrowsUnknown c = search rules
