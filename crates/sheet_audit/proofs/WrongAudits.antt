-- The audit of a sheet with a wrong number.
use Rattle.std.proofs.Common.{◌≡◌, ◌∙◌, ℕ, ◌+◌, ◌≤◌, Bool, true, false, nat_lt, List, length, take, Result, Ok, Err, Option, Some, IfOk, IfSome, if◌then◌else◌, refl, sym, subst, arith}
use Rattle.std.proofs.lemmas.Bool.{ltb-false}
use Rattle.std.proofs.lemmas.List.{take_all}
use Rattle.ref_tiles.specs.declared.rulebook.Rules.{Rules}
use Rattle.gcg_read.specs.declared.faults.ReadFault.{ReadFault}
use Rattle.gcg_read.specs.declared.records.Record.{Record}
use Rattle.gcg_read.specs.Records.{record_of, most_bytes}
use Rattle.io_devices.specs.Devices.{Device}
use Rattle.engine_stages.specs.declared.decisions.Decision.{Decision}
use Rattle.engine_stages.specs.declared.faults.RunFault.{RunFault}
use Rattle.engine_stages.specs.declared.verdicts.GameFault.{GameFault}
use Rattle.engine_stages.specs.Stages.{IsTaken, IsRead}
use Rattle.game_case.specs.declared.audits.Audit.{Audit}
use Rattle.game_case.specs.declared.entries.Entry.{Entry}
use Rattle.game_case.specs.declared.findings.Finding.{Finding}
use Rattle.game_case.specs.declared.findings.Finding.TheVariants as finding
use Rattle.game_case.specs.Archiving.{IsEntryOf}
use Rattle.game_case.specs.Auditing.{IsAuditOf}
use Rattle.sheet_audit.specs.Wrong.{if_wrong, IsAuditOfWrong, IsWrongAuditBy, IsWrongAuditOf}

-- ---- the bytes of an input

whole : (sheet text : List ℕ) (bytes : Option (List ℕ)) → bytes ≡ Some sheet → length sheet ≤ most_bytes → IfSome bytes (λ all. text ≡ take (most_bytes + 1) all) → text ≡ sheet
whole sheet text bytes known short is =
    let of_sheet : text ≡ take (most_bytes + 1) sheet = subst (λ (b : Option (List ℕ)). IfSome b (λ all. text ≡ take (most_bytes + 1) all)) known is in
    of_sheet ∙ take_all (most_bytes + 1) sheet (omega (arith, short))

-- what is found of an input is found of its bytes, if they are not too many
pub of_sheet : (rules : Rules) (list : List (List ℕ)) (sheet : List ℕ) (old new : Device) (result : Result (Result Audit Decision) RunFault) (r : Result Audit Decision)
    → old.bytes ≡ Some sheet → result ≡ Ok r → IsRead most_bytes old new (IsAuditOf rules list) result → length sheet ≤ most_bytes → IsAuditOf rules list sheet r
of_sheet rules list sheet old new result r known is read short =
    let taken : IsTaken most_bytes old (IsAuditOf rules list) r = subst (λ (x : Result (Result Audit Decision) RunFault). IfOk x (IsTaken most_bytes old (IsAuditOf rules list))) is read.taken in
    subst (λ (t : List ℕ). IsAuditOf rules list t r) (whole sheet taken.text old.bytes known short taken.given.whole) taken.means

pub if_of_sheet : (rules : Rules) (list : List (List ℕ)) (sheet : List ℕ) (r : Result Audit Decision) (a : Option Audit) → IsAuditOf rules list sheet r → a ≡ if_wrong r → IsAuditOfWrong rules list sheet a
if_of_sheet rules list sheet r a is wrong = record { audit = r; of_text = is; wrong = wrong }

-- ---- the text of a record

short_if : (long : Bool) (fault : ReadFault) (rest : Result Record ReadFault) (r : Record) → (if long then Err fault else rest) ≡ Ok r → long ≡ false
short_if true fault rest r is = cc
short_if false fault rest r is = refl

record_short : (text : List ℕ) (r : Record) → record_of text ≡ Ok r → length text ≤ most_bytes
unfolding record_of
record_short text r is = ltb-false most_bytes (length text) (short_if (nat_lt most_bytes (length text)) _ _ r is)

pub wrong_of : (rules : Rules) (list : List (List ℕ)) (shown text : List ℕ) (read : Result Entry ReadFault) (entry : Entry) (line : ℕ) (fault : GameFault) (a : Option Audit) → read ≡ Ok entry
    → entry.finding ≡ finding.Illegal line fault → shown ≡ text → IsEntryOf rules list text read → (length shown ≤ most_bytes → IsAuditOfWrong rules list shown a)
    → IsWrongAuditOf rules list text read a
wrong_of rules list shown text read entry line fault a is_read illegal same of_text audited =
    let of_entry : IsEntryOf rules list text (Ok entry) = subst (λ (r : Result Entry ReadFault). IsEntryOf rules list text r) is_read of_text in
    let short : length text ≤ most_bytes = record_short text entry.record of_entry.0 in
    let of_shown : IsAuditOfWrong rules list shown a = audited (subst (λ (t : List ℕ). length t ≤ most_bytes) (sym same) short) in
    let of_this : IsAuditOfWrong rules list text a = subst (λ (t : List ℕ). IsAuditOfWrong rules list t a) same of_shown in
    let by_finding : IsWrongAuditBy entry.finding rules list text a = subst (λ (f : Finding). IsWrongAuditBy f rules list text a) (sym illegal) of_this in
    subst (λ (r : Result Entry ReadFault). IsWrongAuditOf rules list text r a) (sym is_read) by_finding
