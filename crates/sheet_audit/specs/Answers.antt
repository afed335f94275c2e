-- The answer to an audit: the audit, and its wrong numbers with their events.
use Rattle.std.specs.Prelude.{ℕ, List, Result, Ok, Err}
use Rattle.ref_tiles.specs.declared.rulebook.Rules.{Rules}
use Rattle.engine_stages.specs.declared.decisions.Decision.{Decision}
use Rattle.engine_stages.specs.Stages.{IsRecordOf}
use Rattle.game_case.specs.Auditing.{IsAuditOfRecord}
use Rattle.sheet_audit.specs.declared.answers.AuditAnswer.{AuditAnswer}
use Rattle.sheet_audit.specs.Reported.{AreReported}
use Rattle.repair_answers.specs.Amounts.{IsAmountOnSheet}

-- the answer to an audit of the record that a text means
pub record IsAuditAnswer (rules : Rules) (list : List (List ℕ)) (text : List ℕ) (a : AuditAnswer) : Type 0 where
  pub audit : IsAuditOfRecord rules list text a.audit
  pub reported : AreReported rules list audit.written.events a.audit.entry.record.events a.numbers.items
  pub amount : IsAmountOnSheet rules list text a.amount

-- or the verdict that names its first fault
abbrev pub IsAuditAnswerOf : Rules → (list : List (List ℕ)) → (text : List ℕ) → Result AuditAnswer Decision → Type 0
IsAuditAnswerOf rules list text (Ok a) = IsAuditAnswer rules list text a
IsAuditAnswerOf rules list text (Err d) = IsRecordOf text (Err d)
