use Rattle.game_turns.specs.declared.faults.RuleFault.TheVariants as fault
use Rattle.explain_facts.proofs.Beginnings.{begins_listed, goes_on}
use Rattle.explain_facts.proofs.rule_faults.turn_facts.Goals as goal

pub returns-clause-first : goal.returns-clause-first
returns-clause-first c =
    goes_on fault.NotYourTurn _ _ _ c.in_ok-report_some.ensures.added
    (begins_listed fault.NotYourTurn c.not_your_turn.result c.in_ok-facts.facts.items c.not_your_turn.ensures.named c.in_ok-facts.ensures.are)
