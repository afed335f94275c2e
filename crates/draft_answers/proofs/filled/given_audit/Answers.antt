use Rattle.lex_check.specs.Pairs.{list_in}
use Rattle.sheet_audit.specs.Answers.{IsAuditAnswerOf}
use Rattle.draft_answers.proofs.ReadTexts.{means_read}
use Rattle.draft_answers.proofs.filled.given_audit.Goals as goal

pub returns : goal.returns
returns c =
    means_read _ _ c.args.sheet.now (IsAuditAnswerOf c.args.rules.now (list_in c.args.pair.now)) c.answer_audit.result
    c.new-input.ensures c.answer_audit.ensures
