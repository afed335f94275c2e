use Rattle.std.proofs.Common.{◌≡◌, true, sym, subst}
use Rattle.game_turns.specs.declared.faults.RuleFault.{RuleFault}
use Rattle.explain_facts.specs.FaultFacts.{begin_with}
use Rattle.explain_facts.proofs.Beginnings.{each_ok, score_begins, total_begins}
use Rattle.explain_facts.proofs.rule_faults.rule_fault_facts.Goals as goal

pub returns-in-NotYourTurn-clause-first : goal.returns-in-NotYourTurn-clause-first
returns-in-NotYourTurn-clause-first c =
    each_ok _ _ c.turn_facts.result (λ facts first _. subst (λ (why : RuleFault). begin_with why facts.items ≡ true) (sym c.in-NotYourTurn.is) first) c.turn_facts.ensures.first

pub returns-in-Play-clause-first : goal.returns-in-Play-clause-first
returns-in-Play-clause-first c =
    each_ok _ _ c.play_facts.result (λ facts first _. subst (λ (why : RuleFault). begin_with why facts.items ≡ true) (sym c.in-Play.is) first) c.play_facts.ensures.first

pub returns-in-WrongScore-clause-first : goal.returns-in-WrongScore-clause-first
returns-in-WrongScore-clause-first c =
    each_ok _ _ c.score_facts.result (λ facts first _. subst (λ (why : RuleFault). begin_with why facts.items ≡ true) (sym c.in-WrongScore.is) (score_begins _ _ facts.items first)) c.score_facts.ensures.first

pub returns-in-WrongTotal-clause-first : goal.returns-in-WrongTotal-clause-first
returns-in-WrongTotal-clause-first c =
    each_ok _ _ c.total_facts.result (λ facts first _. subst (λ (why : RuleFault). begin_with why facts.items ≡ true) (sym c.in-WrongTotal.is) (total_begins _ _ facts.items first)) c.total_facts.ensures.first
