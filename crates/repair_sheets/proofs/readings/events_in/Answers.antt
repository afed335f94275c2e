use Rattle.std.proofs.Common.{rules}
use Rattle.repair_sheets.proofs.Read.{no_events}
use Rattle.repair_sheets.proofs.readings.events_in.Goals as goal

pub returns : goal.returns
returns c = no_events c.args.text.now c.in-Err.fault (search rules) (search rules)
