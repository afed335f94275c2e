use Rattle.std.proofs.Common.{subst, ap, Ok}
use Rattle.lex_check.specs.Pairs.{list_in}
use Rattle.engine_stages.specs.Stages.{IsRecordOf}
use Rattle.game_case.proofs.AuditedRecords.{audit_of}
use Rattle.game_case.proofs.audits.audit_from.Goals as goal

pub returns : goal.returns
returns c =
    audit_of c.args.rules.now (list_in c.args.pair.now) c.args.text.items c.in-Ok.record c.in_ok-audit.audit (ap (λ t. t.items) c.in_ok-audit.ensures.text)
    c.law_of_other_points.ensures.points
    (subst (λ t. IsRecordOf t (Ok c.in-Ok.record)) c.deref.ensures.value (subst (IsRecordOf c.deref.result.now) c.in-Ok.is c.in_ok-record.ensures))
    c.in_ok-audit.ensures.audit c.in_ok-audit.ensures.points
