use Rattle.std.proofs.Common.{◌∙◌, sym}
use Rattle.engine_faults.proofs.ReadBack.{name_there}
use Rattle.engine_faults.proofs.names.FaultName.of.Goals as goal

pub returns-in-Some : goal.returns-in-Some
returns-in-Some c = name_there c.args.text.now c.in-Some.place _ (sym c.place_of.ensures.place ∙ c.in-Some.is) c.in-Some.ensures.within
