use Rattle.explain_answers.proofs.Passed.{finished_by}
use Rattle.explain_answers.proofs.passing.passed_by.Goals as goal

pub of_allowed-requires-clause-finished : goal.of_allowed-requires-clause-finished
of_allowed-requires-clause-finished c =
    let rules = c.args.rules.now in
    let list = c.args.list.now in
    let events = c.args.record.now.events in
    finished_by rules list events c.args.walk.now c.end.result.now c.is_some.result c.finished-complete.result c.requires c.is_some.ensures c.if-is_some.false (c.end.ensures rules list events)
    c.finished-complete.ensures
