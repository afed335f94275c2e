use Rattle.std.proofs.Common.{None, sym, subst}
use Rattle.engine_stages.specs.declared.verdicts.GameFault.{GameFault}
use Rattle.explain_facts.proofs.Beginnings.{each_ok}
use Rattle.explain_answers.specs.Events.{IsFoundFor}
use Rattle.explain_answers.proofs.Bounding.{any_ok}
use Rattle.explain_answers.proofs.sheets.rack_fact.Goals as goal

pub returns-in-Rule-clause-found : goal.returns-in-Rule-clause-found
returns-in-Rule-clause-found c = subst (λ (why : GameFault). IsFoundFor c.args.rules.now c.args.steps.now c.args.place why None) (sym c.in-Rule.is) tt

pub returns-in-RackTooBig-clause-found : goal.returns-in-RackTooBig-clause-found
returns-in-RackTooBig-clause-found c =
    each_ok _ _ c.rack_too_big.result (λ fact found. subst (λ (why : GameFault). IsFoundFor c.args.rules.now c.args.steps.now c.args.place why fact) (sym c.in-RackTooBig.is) found)
    c.rack_too_big.ensures.found

pub returns-in-TilesShort-clause-found : goal.returns-in-TilesShort-clause-found
returns-in-TilesShort-clause-found c =
    each_ok _ _ c.tiles_short.result (λ fact found. subst (λ (why : GameFault). IsFoundFor c.args.rules.now c.args.steps.now c.args.place why fact) (sym c.in-TilesShort.is) found)
    c.tiles_short.ensures.found

pub returns-in-NoDeal-clause-found : goal.returns-in-NoDeal-clause-found
returns-in-NoDeal-clause-found c =
    any_ok _ c.no_deal.result (λ fact. subst (λ (why : GameFault). IsFoundFor c.args.rules.now c.args.steps.now c.args.place why fact) (sym c.in-NoDeal.is) tt)
