-- The audit of a sheet with a wrong number.
use Rattle.std.specs.Prelude.{◌≡◌, ℕ, ◌==◌, List, length, Result, Ok, Err, Option, Some, None, if◌then◌else◌}
use Rattle.ref_tiles.specs.declared.rulebook.Rules.{Rules}
use Rattle.gcg_read.specs.declared.faults.ReadFault.{ReadFault}
use Rattle.engine_stages.specs.declared.decisions.Decision.{Decision}
use Rattle.game_case.specs.declared.audits.Audit.{Audit}
use Rattle.game_case.specs.declared.entries.Entry.{Entry}
use Rattle.game_case.specs.declared.findings.Finding.{Finding}
use Rattle.game_case.specs.declared.findings.Finding.TheVariants as finding
use Rattle.game_case.specs.Auditing.{IsAuditOf}

-- an audit, if a number is wrong
abbrev pub if_any : Audit → Option Audit
if_any a = if length a.wrong.items == 0 then None else Some a

-- the same for a text that may not be a record
abbrev pub if_wrong : Result Audit Decision → Option Audit
if_wrong (Ok a) = if_any a
if_wrong (Err d) = None

-- the audit of a text, if it is a record with a wrong number, and none if it is not
pub record IsAuditOfWrong (rules : Rules) (list : List (List ℕ)) (text : List ℕ) (a : Option Audit) : Type 0 where
  pub audit : Result Audit Decision
  pub of_text : IsAuditOf rules list text audit
  pub wrong : a ≡ if_wrong audit

-- the same for a text of which this was found: only an illegal record has such an audit
abbrev pub IsWrongAuditBy : Finding → Rules → (list : List (List ℕ)) → (text : List ℕ) → Option Audit → Type 0
IsWrongAuditBy (finding.Illegal line fault) rules list text a = IsAuditOfWrong rules list text a
IsWrongAuditBy other rules list text a = a ≡ None

-- the same for what was read from a text
abbrev pub IsWrongAuditOf : Rules → (list : List (List ℕ)) → (text : List ℕ) → Result Entry ReadFault → Option Audit → Type 0
IsWrongAuditOf rules list text (Ok entry) a = IsWrongAuditBy entry.finding rules list text a
IsWrongAuditOf rules list text (Err fault) a = a ≡ None
