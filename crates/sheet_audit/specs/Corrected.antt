-- The corrected record, written and read again.
use Rattle.std.specs.Prelude.{◌≡◌, ◌≤◌, ℕ, List, length, Ok}
use Rattle.ref_tiles.specs.declared.rulebook.Rules.{Rules}
use Rattle.gcg_read.specs.Records.{record_of, most_bytes}
use Rattle.game_case.specs.declared.audits.Audit.{Audit}
use Rattle.game_case.specs.Auditing.{IsAuditOfRecord}

-- The bytes are a record again, if they are no longer than a record may be: the corrected record of an audit, on the lines of the sheet.
abbrev pub IsReadBack : Audit → (bytes : List ℕ) → Type 0
IsReadBack a bytes =
    (rules : Rules) (list : List (List ℕ)) (text : List ℕ) → IsAuditOfRecord rules list text a → length bytes ≤ most_bytes → record_of bytes ≡ Ok a.entry.record
