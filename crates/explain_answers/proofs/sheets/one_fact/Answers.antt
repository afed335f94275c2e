use Rattle.explain_answers.specs.Events.{IsTrueAt}
use Rattle.explain_answers.proofs.Refusing.{one_at}
use Rattle.explain_answers.proofs.sheets.one_fact.Goals as goal

pub returns-clause-reported : goal.returns-clause-reported
returns-clause-reported c =
    let sheet = c.args.sheet.now in
    one_at (IsTrueAt sheet.rules.now sheet.list.now sheet.record.now.events c.args.place) c.new-facts.result.items c.push.new.self.items c.args.fact c.new-facts.ensures.items
    c.in_ok-push.ensures.items c.requires
