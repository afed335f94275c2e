-- Whether the corrected record of an audit stands.
use Rattle.std.specs.Prelude.{Bool, true, false, ◌&&◌, is_none}
use Rattle.game_case.specs.declared.findings.Finding.{Finding}
use Rattle.game_case.specs.declared.findings.Finding.TheVariants as finding
use Rattle.sheet_audit.specs.declared.answers.AuditAnswer.{AuditAnswer}

-- Whether the events of a record with this finding are all allowed, and no deal is ruled out. A record without an event is one.
abbrev pub stands : Finding → Bool
stands finding.NoGame = true
stands (finding.Legal complete) = true
stands (finding.Illegal line fault) = false
stands finding.Unsettled = true

-- whether the corrected record is to be written: it stands, and nothing else explains the numbers that it replaces
abbrev pub is_written : AuditAnswer → Bool
is_written a = stands a.audit.entry.finding && is_none a.amount
