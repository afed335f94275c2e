use Rattle.explain_facts.proofs.ClashLaws.{turn_silent}
use Rattle.explain_facts.proofs.clashes.silent.Goals as goal

pub returns-in-Turns : goal.returns-in-Turns
returns-in-Turns c = turn_silent c.args.act.now _ c.new.result c.in-Turns.motion c.in-Turns.is c.new.ensures
