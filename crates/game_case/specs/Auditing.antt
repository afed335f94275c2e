-- The audit of one sheet, by a word list and a lexicon that were read before.
use Rattle.std.specs.Prelude.{◌≡◌, ℕ, List, Result, Ok, Err}
use Rattle.ref_tiles.specs.declared.rulebook.Rules.{Rules}
use Rattle.gcg_read.specs.declared.records.Record.{Record}
use Rattle.gcg_read.specs.Records.{record_of}
use Rattle.game_corrections.specs.Auditing.{IsAudited}
use Rattle.game_corrections.specs.Corrections.{HavePoints}
use Rattle.game_corrections.specs.Standings.{IsStandingIn}
use Rattle.game_case.specs.declared.audits.Audit.{Audit}
use Rattle.engine_stages.specs.declared.decisions.Decision.{Decision}
use Rattle.game_case.specs.Archiving.{IsEntry}
use Rattle.engine_stages.specs.Stages.{IsRecordOf}

-- what an audit says of a record as it is written: the entry is of a record with the same players, and with the events of the
-- record, corrected as far as they can be; the wrong numbers are given, and who is ahead by these events and by those that are written
pub record IsAudit (rules : Rules) (list : List (List ℕ)) (written : Record) (a : Audit) : Type 0 where
  pub players : a.entry.record.players ≡ written.players
  pub audited : IsAudited rules list written.events a.entry.record.events a.wrong.items
  pub entry : IsEntry rules list a.entry
  pub ahead : IsStandingIn a.entry.record.events a.ahead
  pub on_sheet : IsStandingIn written.events a.written

-- the audit of the record that a text means, and the text itself: its corrected record has scores and totals that a record can write
pub record IsAuditOfRecord (rules : Rules) (list : List (List ℕ)) (text : List ℕ) (a : Audit) : Type 0 where
  pub kept : a.text.items ≡ text
  pub written : Record
  pub means : record_of text ≡ Ok written
  pub audit : IsAudit rules list written a
  pub points : HavePoints a.entry.record.events

-- or the verdict that names its first fault
abbrev pub IsAuditOf : Rules → (list : List (List ℕ)) → (text : List ℕ) → Result Audit Decision → Type 0
IsAuditOf rules list text (Ok a) = IsAuditOfRecord rules list text a
IsAuditOf rules list text (Err d) = IsRecordOf text (Err d)
