-- The results of the stages that read an input.
use Rattle.std.proofs.Common.{◌≡◌, ◌⊎◌, ℕ, List, Result, Ok, Err, refl, ap, subst, sym, ◌∙◌, ⊎_elim, ◌+◌}
use Rattle.io_devices.specs.Devices.{Device, HasWorked}
use Rattle.io_devices.specs.Inputs.{IsInput, TakesAtMost}
use Rattle.gcg_read.specs.declared.faults.ReadFault.{ReadFault}
use Rattle.gcg_read.specs.declared.records.Record.{Record}
use Rattle.gcg_read.specs.declared.faults.Why.TheVariants as why
use Rattle.gcg_read.specs.Faults as reading
use Rattle.gcg_read.specs.Records.{record_of}
use Rattle.lex_list.specs.declared.faults.ListFault.{ListFault}
use Rattle.lex_list.specs.declared.faults.ListWhy.TheVariants as list_why
use Rattle.lex_list.specs.Faults as listing
use Rattle.lex_list.specs.Lists.{list_of}
use Rattle.engine_stages.specs.declared.decisions.Decision.{Decision}
use Rattle.engine_stages.specs.declared.faults.RunFault.{RunFault}
use Rattle.engine_stages.specs.declared.faults.RunFault.TheVariants as run
use Rattle.engine_stages.specs.declared.verdicts.Verdict.TheVariants as verdict
use Rattle.engine_stages.specs.Reports.{bad_list_line, bad_record_line}
use Rattle.engine_stages.specs.Stages.{ReadGivesUp, IsRead, IsListOf, IsRecordOf}
use Rattle.engine_stages.specs.Reporting.{IsReported}

-- an input was not read
pub failed : {A : Type 0} (limit : ℕ) (old new : Device) (Means : List ℕ → A → Type 0) (fault : RunFault) → ReadGivesUp fault old new → TakesAtMost (limit + 1) old new
    → IsRead limit old new Means (Err fault)
failed limit old new Means fault gave_up within = record { taken = tt; worked = tt; gave_up = gave_up; within = within }

-- it was read, and there is no memory for more
pub stopped : {A : Type 0} (limit : ℕ) (old new : Device) (Means : List ℕ → A → Type 0) → HasWorked old new → TakesAtMost (limit + 1) old new
    → IsRead limit old new Means (Err run.NoMemory)
stopped limit old new Means worked within = record { taken = tt; worked = tt; gave_up = worked; within = within }

-- it was read, and a meaning was found
pub taken : {A : Type 0} (limit : ℕ) (old new : Device) (Means : List ℕ → A → Type 0) (given text : List ℕ) (a : A) → IsInput limit old given → text ≡ given → Means text a
    → HasWorked old new → TakesAtMost (limit + 1) old new → IsRead limit old new Means (Ok a)
taken limit old new Means given text a there shown means worked within =
    record {
      taken = record { text = given; given = there; means = subst (λ t. Means t a) shown means };
      worked = worked;
      gave_up = tt;
      within = within;
    }

-- only its bytes
pub whole : {A : Type 0} (limit : ℕ) (old new : Device) (items : A → List ℕ) (a : A) → IsInput limit old (items a) → HasWorked old new → TakesAtMost (limit + 1) old new
    → IsRead limit old new (λ text bytes. items bytes ≡ text) (Ok a)
whole limit old new items a there worked within =
    record { taken = record { text = items a; given = there; means = refl }; worked = worked; gave_up = tt; within = within }

-- ---- texts that mean nothing

pub no_list : (text : List ℕ) (fault : ListFault) (d : Decision) → (fault ≡ listing.no_memory) ⊎ (list_of text ≡ Err fault) → (fault.why ≡ list_why.NoMemory → ⊥)
    → IsReported verdict.BadList (bad_list_line fault) d.verdict d.report.items → IsListOf text (Err d)
no_list text fault d given known reported =
    ⊎_elim
    (λ (none : fault ≡ listing.no_memory). absurd (known (ap (λ (f : ListFault). f.why) none)))
    (λ (e : list_of text ≡ Err fault). (fault, e, reported))
    given

pub no_game : (text : List ℕ) (fault : ReadFault) → (fault ≡ reading.no_memory) ⊎ (record_of text ≡ Err fault) → (fault.why ≡ why.NoMemory → ⊥) → Err fault ≡ record_of text
no_game text fault given known =
    ⊎_elim
    (λ (none : fault ≡ reading.no_memory). absurd (known (ap (λ (f : ReadFault). f.why) none)))
    (λ (e : record_of text ≡ Err fault). sym e)
    given

pub no_record : (text : List ℕ) (given : Result Record ReadFault) (fault : ReadFault) (d : Decision) → given ≡ record_of text → given ≡ Err fault
    → IsReported verdict.BadRecord (bad_record_line fault) d.verdict d.report.items → IsRecordOf text (Err d)
no_record text given fault d same is reported = (fault, sym same ∙ is, reported)
