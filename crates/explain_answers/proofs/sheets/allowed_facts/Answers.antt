use Rattle.std.proofs.Common.{sym, subst}
use Rattle.std.specs.Option.{option_copied}
use Rattle.explain_answers.specs.Events.{SayTheRacks}
use Rattle.explain_answers.proofs.sheets.allowed_facts.Goals as goal

pub returns-in_default-clause-racks : goal.returns-in_default-clause-racks
returns-in_default-clause-racks c =
    let sheet = c.args.sheet.now in
    subst (λ why. SayTheRacks sheet.rules.now sheet.list.now sheet.record.now.events c.args.place (option_copied why) c.in_ok-facts.facts.items) (sym c.in_default.is) tt

pub push_allowed-requires-clause-racks : goal.push_allowed-requires-clause-racks
push_allowed-requires-clause-racks c =
    let sheet = c.args.sheet.now in
    subst (λ why. SayTheRacks sheet.rules.now sheet.list.now sheet.record.now.events c.args.place (option_copied why) c.push_rack_facts.new.facts.items) (sym c.in-Some.is) c.in_ok-push_rack_facts.ensures.racks
