use Rattle.std.proofs.Common.{rules}
use Rattle.std.proofs.lemmas.List.{places}
use Rattle.io_devices.proofs.Moved.{takes_more}
use Rattle.io_devices.proofs.inputs.read_within.Goals as goal

pub returns-in_err-read_more-clause-taken : goal.returns-in_err-read_more-clause-taken
returns-in_err-read_more-clause-taken g c = takes_more _ _ _ _ _ _ c.loop-chunk.invariant.taken c.in_err-read_more.ensures.taken (search (rules, places))
