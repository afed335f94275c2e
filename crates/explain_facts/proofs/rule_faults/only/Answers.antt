use Rattle.explain_facts.specs.Moments.{moment_of}
use Rattle.explain_facts.proofs.Beginnings.{begins_there}
use Rattle.explain_facts.proofs.rule_faults.only.Goals as goal

pub returns-clause-first : goal.returns-clause-first
returns-clause-first c = begins_there (moment_of c.args.scene.now) c.args.why.now c.args.fact c.in_ok-facts.facts.items c.requires.named c.in_ok-facts.ensures.are
