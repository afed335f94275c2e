-- What a call writes of what it found.
use Rattle.std.specs.Prelude.{◌≡◌, ◌⊎◌, ℕ, List, Result, IfOk, IfErr, IfSome, OnOk, IsTrue, is_some}
use Rattle.std.specs.Io.KnownBytes.{Appends}
use Rattle.io_devices.specs.Devices.{Device, HasWorked}
use Rattle.io_devices.specs.Outputs.{SendsFront}
use Rattle.engine_stages.specs.declared.decisions.Decision.{Decision}
use Rattle.engine_stages.specs.declared.faults.RunFault.{RunFault}
use Rattle.engine_stages.specs.declared.faults.RunFault.TheVariants as run
use Rattle.engine_stages.specs.declared.verdicts.Verdict.{Verdict}
use Rattle.engine_stages.specs.Runs.{HasStopped, IsAnswered, outcome_verdict, outcome_report}
use Rattle.engine_stages.specs.Sources.{Source, AllHaveWorked, OneHasFailed, AreWithin}
use Rattle.game_exits.specs.Exits.{status_of}
use Rattle.reply_calls.specs.declared.printed.Printed.{Printed}
use Rattle.reply_calls.specs.declared.ended.Ended.{Ended}
use Rattle.reply_calls.specs.Endings.{status_of_found, refused_of}

-- What was found is written: the report that shows it, and no more, goes to the output; if there is a text to be kept, it is kept; the status is that of
-- what was found.
pub record IsWrittenOf {A : Type 0} (Shows : Result A Decision → Printed → Type 0) (ends : A → ℕ) (Holds : List ℕ → Type 0) (found : Result A Decision) (out_old out_new : Device) (ended : Ended) : Type 0 where
  pub printed : Printed
  pub shown : Shows found printed
  pub sent : Appends out_old.bytes out_new.bytes printed.report.items
  pub kept : IfSome printed.kept (λ text. Holds text.items)
  pub status : status_of ended.exit ≡ status_of_found ends found
  pub refused : ended.refused ≡ refused_of found

-- An output failed: that of the text to be kept, and then nothing of the report was written; or, once that text was kept, the output of the report, which
-- failed or took no byte of a write, and then a prefix of the report was written.
abbrev pub StopsOutput : (Holds : List ℕ → Type 0) → (HasFailed : Type 0) → Printed → (out_old out_new : Device) → Type 0
StopsOutput Holds HasFailed printed out_old out_new =
    (IsTrue (is_some printed.kept) × HasFailed × (out_new ≡ out_old))
    ⊎ (IfSome printed.kept (λ text. Holds text.items) × HasStopped out_old out_new × SendsFront out_old out_new printed.report.items)

-- the same of what shows something that was found
pub record StopsShowing {A : Type 0} (Shows : Result A Decision → Printed → Type 0) (Holds : List ℕ → Type 0) (HasFailed : Type 0) (found : Result A Decision) (out_old out_new : Device) : Type 0 where
  pub printed : Printed
  pub shown : Shows found printed
  pub stops : StopsOutput Holds HasFailed printed out_old out_new

-- why it was not written: memory was refused, and then nothing was; or an output failed
abbrev pub StopsWriting : {A : Type 0} → (Shows : Result A Decision → Printed → Type 0) → (Holds : List ℕ → Type 0) → (HasFailed : Type 0) → Result A Decision → (out_old out_new : Device) → RunFault → Type 0
StopsWriting Shows Holds HasFailed found out_old out_new run.ReadFailed = ⊥
StopsWriting Shows Holds HasFailed found out_old out_new run.WriteFailed = StopsShowing Shows Holds HasFailed found out_old out_new
StopsWriting Shows Holds HasFailed found out_old out_new run.NoMemory = out_new ≡ out_old

pub record IsWriting {A : Type 0} (Shows : Result A Decision → Printed → Type 0) (ends : A → ℕ) (Holds : List ℕ → Type 0) (HasFailed : Type 0) (found : Result A Decision) (out_old out_new : Device) (result : Result Ended RunFault) : Type 0 where
  pub written : IfOk result (IsWrittenOf Shows ends Holds found out_old out_new)
  pub worked : OnOk result (HasWorked out_old out_new)
  pub gave_up : IfErr result (StopsWriting Shows Holds HasFailed found out_old out_new)

-- for the bytes that the inputs give, this is found, and it is written
pub record Replies {A : Type 0} (sources : List Source) (IsFound : Result A Decision → List (List ℕ) → Verdict → List ℕ → Type 0) (Shows : Result A Decision → Printed → Type 0) (ends : A → ℕ) (Holds : List ℕ → Type 0)
    (out_old out_new : Device) (ended : Ended) : Type 0 where
  pub found : Result A Decision
  pub is_found : IsAnswered sources (IsFound found) (outcome_verdict found) (outcome_report found)
  pub written : IsWrittenOf Shows ends Holds found out_old out_new ended

-- for the bytes that the inputs give, this is found, and an output failed
pub record FailsReplying {A : Type 0} (sources : List Source) (IsFound : Result A Decision → List (List ℕ) → Verdict → List ℕ → Type 0) (Shows : Result A Decision → Printed → Type 0) (Holds : List ℕ → Type 0)
    (HasFailed : Type 0) (out_old out_new : Device) : Type 0 where
  pub worked : AllHaveWorked sources
  pub found : Result A Decision
  pub is_found : IsAnswered sources (IsFound found) (outcome_verdict found) (outcome_report found)
  pub stops : StopsShowing Shows Holds HasFailed found out_old out_new

-- Why a call gave up: an input failed, or memory was refused, and then nothing was written; or an output failed.
abbrev pub GivesUpBy : {A : Type 0} → List Source → (Result A Decision → List (List ℕ) → Verdict → List ℕ → Type 0) → (Result A Decision → Printed → Type 0) → (List ℕ → Type 0) → Type 0
    → (out_old out_new : Device) → RunFault → Type 0
GivesUpBy sources IsFound Shows Holds HasFailed out_old out_new run.ReadFailed = OneHasFailed sources × (out_new ≡ out_old)
GivesUpBy sources IsFound Shows Holds HasFailed out_old out_new run.WriteFailed = FailsReplying sources IsFound Shows Holds HasFailed out_old out_new
GivesUpBy sources IsFound Shows Holds HasFailed out_old out_new run.NoMemory = AllHaveWorked sources × (out_new ≡ out_old)

-- A call by inputs, which are read in order until one is bad, and an output: it finds what there is to be found by the bytes that they give, and writes that and
-- nothing else; otherwise it says why, and what was written.
pub record IsReplying {A : Type 0} (sources : List Source) (IsFound : Result A Decision → List (List ℕ) → Verdict → List ℕ → Type 0) (Shows : Result A Decision → Printed → Type 0) (ends : A → ℕ) (Holds : List ℕ → Type 0)
    (HasFailed : Type 0) (out_old out_new : Device) (result : Result Ended RunFault) : Type 0 where
  pub replied : IfOk result (Replies sources IsFound Shows ends Holds out_old out_new)
  pub worked : OnOk result (AllHaveWorked sources × HasWorked out_old out_new)
  pub gave_up : IfErr result (GivesUpBy sources IsFound Shows Holds HasFailed out_old out_new)
  pub within : AreWithin sources
