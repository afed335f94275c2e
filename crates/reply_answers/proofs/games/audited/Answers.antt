use Rattle.std.proofs.Common.{refl, ap}
use Rattle.io_devices.specs.Devices.{Device}
use Rattle.lex_check.specs.Pairs.{list_in}
use Rattle.sheet_audit.specs.Answers.{IsAuditAnswerOf}
use Rattle.reply_answers.proofs.Reading.{means_read, memory_alone}
use Rattle.reply_answers.proofs.games.audited.Goals as goal

pub returns-clause-found : goal.returns-clause-found
returns-clause-found c =
    means_read _ _ c.args.game.now (IsAuditAnswerOf c.args.rules.now (list_in c.args.pair.now)) c.answer_audit.result
    c.new-input.ensures c.answer_audit.ensures

pub returns-clause-memory : goal.returns-clause-memory
returns-clause-memory c = memory_alone _ _ _ c.answer_audit.result (ap (λ (d : Device). d.failures) c.new-input.ensures) refl c.answer_audit.ensures
