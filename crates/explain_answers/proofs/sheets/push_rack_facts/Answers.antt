use Rattle.std.proofs.Common.{rules, ◌≡◌, false, List, Some, refl, subst}
use Rattle.std.proofs.lemmas.Bool.{both_ways}
use Rattle.std.specs.Prelude.{IsSome}
use Rattle.deal_steps.specs.declared.steps.Step.{Step}
use Rattle.game_deal.specs.Recorded.{steps_of}
use Rattle.explain_answers.specs.Events.{IsFoundFor}
use Rattle.explain_answers.proofs.Bounding.{none_due, is_said, goes_on}
use Rattle.explain_answers.proofs.sheets.push_rack_facts.Goals as goal

pub returns-in_default-clause-racks : goal.returns-in_default-clause-racks
returns-in_default-clause-racks c =
    let sheet = c.args.sheet.now in
    none_due sheet.rules.now sheet.list.now sheet.record.now.events c.args.place (Some c.args.fault.now) _ (λ allowed. both_ways false refl (subst IsSome c.in_default.is (c.passed_by.ensures.passed.1 allowed)))

pub returns-clause-racks : goal.returns-clause-racks
returns-clause-racks c =
    let sheet = c.args.sheet.now in
    let events = sheet.record.now.events in
    let same : c.as_slice-steps.result.now ≡ steps_of sheet.rules.now events = search rules in
    let found = subst (λ (steps : List Step). IsFoundFor sheet.rules.now steps c.args.place c.args.fault.now c.in_ok-fact.fact) same c.in_ok-fact.ensures.found in
    goes_on sheet.rules.now sheet.list.now events c.args.place (Some c.args.fault.now) _ _ _ c.in_ok-push_some-3.ensures.added
    (is_said sheet.rules.now sheet.list.now events c.args.place c.args.fault.now _ _ _ c.in_ok-push_some-2.ensures.added found)
