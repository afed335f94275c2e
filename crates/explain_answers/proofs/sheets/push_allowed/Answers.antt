use Rattle.explain_answers.proofs.Bounding.{goes_on}
use Rattle.explain_answers.proofs.sheets.push_allowed.Goals as goal

pub returns-then-is_empty-clause-racks : goal.returns-then-is_empty-clause-racks
returns-then-is_empty-clause-racks c =
    let sheet = c.args.sheet.now in
    goes_on sheet.rules.now sheet.list.now sheet.record.now.events c.args.place _ _ _ _ c.in_ok-push_fact.ensures.added c.requires.racks
