use Rattle.repair_single.proofs.Foreseen.{foreseen}
use Rattle.repair_single.proofs.mending.foresee_total.Goals as goal

pub returns : goal.returns
returns c = foreseen c.args.events.now c.set_total.new.self c.args.place c.in-Some-total_after.total c.set_total.ensures.there c.set_total.ensures.past
