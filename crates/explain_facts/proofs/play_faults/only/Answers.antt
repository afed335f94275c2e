use Rattle.game_turns.specs.declared.faults.RuleFault.TheVariants as fault
use Rattle.explain_facts.proofs.Beginnings.{begins_listed}
use Rattle.explain_facts.proofs.play_faults.only.Goals as goal

pub returns-clause-first : goal.returns-clause-first
returns-clause-first c = begins_listed (fault.Play c.args.why) c.args.fact c.in_ok-facts.facts.items c.requires.named c.in_ok-facts.ensures.are
