-- The answer to an audit, from the audit.
use Rattle.std.proofs.Common.{◌≡◌, ℕ, List, Ok, sym, subst, ◌∙◌, ap}
use Rattle.std.specs.List.{flat_map}
use Rattle.io_devices.specs.Devices.{Device}
use Rattle.ref_tiles.specs.declared.rulebook.Rules.{Rules}
use Rattle.gcg_read.specs.Laws.{LinesRise}
use Rattle.engine_stages.specs.Stages.{IsRead}
use Rattle.game_case.specs.declared.audits.Audit.{Audit}
use Rattle.game_case.specs.Auditing.{IsAuditOfRecord}
use Rattle.sheet_audit.specs.declared.answers.AuditAnswer.{AuditAnswer}
use Rattle.repair_answers.specs.Amounts.{IsAmountOnSheet}
use Rattle.sheet_audit.specs.Reported.{AreReported}
use Rattle.sheet_audit.specs.Numbers.{reported_number, reported_numbers}
use Rattle.sheet_audit.specs.Answers.{IsAuditAnswer}
use Rattle.sheet_audit.proofs.ReportedNumbers.{audit_reported}

-- the answer by the numbers that were found
by_numbers : (rules : Rules) (list : List (List ℕ)) (text : List ℕ) (a : AuditAnswer) → LinesRise → IsAuditOfRecord rules list text a.audit
    → a.numbers.items ≡ flat_map (reported_number a.audit.entry.record.events) a.audit.wrong.items → IsAmountOnSheet rules list text a.amount → IsAuditAnswer rules list text a
by_numbers rules list text a rises is same amount =
    let right = a.audit.entry.record.events in
    record {
      audit = is;
      reported =
          subst (AreReported rules list is.written.events right) (sym same)
          (audit_reported rules list is.written.events right a.audit.wrong.items (rises text is.written is.means) is.audit.audited);
      amount = amount;
    }

pub answered : (rules : Rules) (list : List (List ℕ)) (text : List ℕ) (audit : Audit) (a : AuditAnswer) → LinesRise → IsAuditOfRecord rules list text audit → a.audit ≡ audit
    → a.numbers.items ≡ reported_numbers audit → IsAmountOnSheet rules list audit.text.items a.amount → IsAuditAnswer rules list text a
unfolding reported_numbers
answered rules list text audit a rises is same numbers amount =
    by_numbers rules list text a rises (subst (IsAuditOfRecord rules list text) (sym same) is) (numbers ∙ ap reported_numbers (sym same))
    (subst (λ (t : List ℕ). IsAmountOnSheet rules list t a.amount) is.kept amount)

-- an input that was read, and a larger meaning of it
pub read_on : {A B : Type 0} (limit : ℕ) (old new : Device) (Means : List ℕ → A → Type 0) (More : List ℕ → B → Type 0) (a : A) (b : B) → IsRead limit old new Means (Ok a)
    → ((text : List ℕ) → Means text a → More text b) → IsRead limit old new More (Ok b)
read_on limit old new Means More a b is more =
    record {
      taken = record { text = is.taken.text; given = is.taken.given; means = more is.taken.text is.taken.means };
      worked = is.worked;
      gave_up = tt;
      within = is.within;
    }
