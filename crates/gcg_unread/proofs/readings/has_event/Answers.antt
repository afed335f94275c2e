use Rattle.std.proofs.Common.{rules}
use Rattle.gcg_unread.proofs.OneLine.{no_event}
use Rattle.gcg_unread.proofs.readings.has_event.Goals as goal

pub returns : goal.returns
returns c = no_event c.args.text.now c.in-Err.fault (search rules) (search rules)
