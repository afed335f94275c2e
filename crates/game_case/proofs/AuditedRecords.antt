-- The audit of a record that was read.
use Rattle.std.proofs.Common.{◌≡◌, ℕ, List, Ok}
use Rattle.ref_tiles.specs.declared.rulebook.Rules.{Rules}
use Rattle.gcg_read.specs.declared.records.Record.{Record}
use Rattle.gcg_read.specs.Records.{record_of}
use Rattle.gcg_write.specs.Rounds.{IsReadWithPoints}
use Rattle.game_corrections.specs.Corrections.{KeepPoints}
use Rattle.game_case.specs.declared.audits.Audit.{Audit}
use Rattle.game_case.specs.Auditing.{IsAudit, IsAuditOfRecord}

pub audit_of : (rules : Rules) (list : List (List ℕ)) (text : List ℕ) (written : Record) (a : Audit) → a.text.items ≡ text → IsReadWithPoints → record_of text ≡ Ok written
    → IsAudit rules list written a → KeepPoints written.events a.entry.record.events → IsAuditOfRecord rules list text a
audit_of rules list text written a kept_text law means audit points =
    record {
      kept = kept_text;
      written = written;
      means = means;
      audit = audit;
      points = points.points (λ place e is. let both = law text written means place e is in record { score = both.0; total = both.1 });
    }
