use Rattle.std.proofs.Common.{◌∙◌}
use Rattle.lex_check.specs.Pairs.{list_in}
use Rattle.sheet_audit.proofs.WrongAudits.{wrong_of}
use Rattle.sheet_audit.proofs.wrong.audit_of_wrong.Goals as goal

pub returns-in_ok-audit-in-Illegal : goal.returns-in_ok-audit-in-Illegal
returns-in_ok-audit-in-Illegal c =
    λ text is.
    wrong_of c.args.rules.now (list_in c.args.pair.now) c.as_slice.result.now text c.args.case.now.read c.in-Ok.entry c.in-Illegal.line c.in-Illegal.fault c.in_ok-audit-in-Illegal.audit
    c.in-Ok.is c.in-Illegal.is (c.as_slice.ensures.value ∙ is.0) is.1 c.in_ok-audit-in-Illegal.ensures
