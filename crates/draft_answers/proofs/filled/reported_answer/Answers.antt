use Rattle.draft_answers.proofs.Sheets.{if_cut}
use Rattle.draft_answers.proofs.filled.reported_answer.Goals as goal

pub returns-in-Some : goal.returns-in-Some
returns-in-Some c = if_cut c.args.stopped c.args.lacking c.in-Some.refusal c.args.answer c.answer_before.result c.in-Some.is c.if-lacking.true c.answer_before.ensures
