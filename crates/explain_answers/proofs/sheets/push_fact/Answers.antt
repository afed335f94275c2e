use Rattle.explain_answers.specs.Events.{IsTrueAt}
use Rattle.explain_answers.proofs.Refusing.{one_after}
use Rattle.explain_answers.proofs.sheets.push_fact.Goals as goal

pub returns-clause-reported : goal.returns-clause-reported
returns-clause-reported c =
    let sheet = c.args.sheet.now in
    one_after (IsTrueAt sheet.rules.now sheet.list.now sheet.record.now.events c.args.place) c.args.facts.now.items c.push.new.self.items c.args.fact c.in_ok-push.ensures.items
    c.requires.reported c.requires.holds
