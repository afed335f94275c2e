use Rattle.std.proofs.Common.{◌≡◌, true, sym, subst}
use Rattle.ref_play.specs.declared.faults.PlayFault.{PlayFault}
use Rattle.game_turns.specs.declared.faults.RuleFault.TheVariants as fault
use Rattle.explain_facts.specs.FaultFacts.{begin_with}
use Rattle.explain_facts.proofs.Beginnings.{each_ok}
use Rattle.explain_facts.proofs.play_faults.play_fault_facts.Goals as goal

pub returns-in-NotWhole-clause-first : goal.returns-in-NotWhole-clause-first
returns-in-NotWhole-clause-first c =
    each_ok _ _ c.whole_facts.result (λ facts first. subst (λ (why : PlayFault). begin_with (fault.Play why) facts.items ≡ true) (sym c.in-NotWhole.is) first) c.whole_facts.ensures.first
