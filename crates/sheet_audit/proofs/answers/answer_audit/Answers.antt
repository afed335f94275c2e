use Rattle.std.proofs.Common.{Ok, subst}
use Rattle.gcg_read.specs.Records.{most_bytes}
use Rattle.lex_check.specs.Pairs.{list_in}
use Rattle.engine_stages.specs.Stages.{IsRead}
use Rattle.game_case.specs.Auditing.{IsAuditOf}
use Rattle.sheet_audit.specs.Answers.{IsAuditAnswerOf}
use Rattle.sheet_audit.proofs.Answering.{answered, read_on}
use Rattle.sheet_audit.proofs.answers.answer_audit.Goals as goal

pub returns-in_ok-answer_of-in-Ok : goal.returns-in_ok-answer_of-in-Ok
returns-in_ok-answer_of-in-Ok g c =
    let rules = c.args.rules.now in
    let list = list_in c.args.pair.now in
    let old = g.G.Input.device c.args.game.now in
    let new = g.G.Input.device c.audit_sheet.new.game in
    let made = c.in_ok-answer_of-in-Ok in
    read_on most_bytes old new (IsAuditOf rules list) (IsAuditAnswerOf rules list) (Ok c.in-Ok.audit) (Ok made.field-0)
    (subst (λ x. IsRead most_bytes old new (IsAuditOf rules list) (Ok x)) c.in-Ok.is c.in_ok-audit.ensures)
    (λ text means. answered rules list text c.in-Ok.audit made.field-0 c.law_of_lines.ensures means made.ensures.audit made.ensures.numbers made.ensures.amount)
