-- What a call answers, by the bytes of its devices.
use Rattle.std.specs.Prelude.{◌≡◌, ℕ, ◌⊎◌, List, [], Result, Ok, Err, IfOk, IfErr, OnOk, OnErr}
use Rattle.std.specs.Io.KnownBytes.{Appends}
use Rattle.io_devices.specs.Devices.{Device, HasFailed, HasWorked, HasStalled}
use Rattle.io_devices.specs.Outputs.{SendsFront}
use Rattle.engine_stages.specs.declared.decisions.Decision.{Decision}
use Rattle.engine_stages.specs.declared.verdicts.Verdict.{Verdict}
use Rattle.engine_stages.specs.declared.verdicts.Verdict.TheVariants as verdict
use Rattle.engine_stages.specs.declared.faults.RunFault.{RunFault}
use Rattle.engine_stages.specs.declared.faults.RunFault.TheVariants as run
use Rattle.engine_stages.specs.Sources.{Source, AreGiven, AllHaveWorked, OneHasFailed, AreWithin, EndsAt}

-- For some bytes that the inputs give, this verdict with this report is an answer.
pub record IsAnswered (sources : List Source) (IsAnswer : List (List ℕ) → Verdict → List ℕ → Type 0) (v : Verdict) (report : List ℕ) : Type 0 where
  pub texts : List (List ℕ)
  pub given : AreGiven sources texts
  pub answer : IsAnswer texts v report

-- ---- what is decided before anything is written

-- why nothing was decided: an input failed, or memory was refused
abbrev pub StopsReading : List Source → RunFault → Type 0
StopsReading sources run.ReadFailed = OneHasFailed sources
StopsReading sources run.WriteFailed = ⊥
StopsReading sources run.NoMemory = AllHaveWorked sources

-- What the answers of a type say: a verdict and its report.
pub record Says (X : Type 0) : Type 0 where
  pub verdict : X → Verdict
  pub report : X → List ℕ

-- a decision says its own
abbrev pub decisions : Says Decision
decisions = record { verdict = λ d. d.verdict; report = λ d. d.report.items }

-- an answer says that it is done, and otherwise the decision says that an input is bad
abbrev pub outcome_verdict : {A : Type 0} → Result A Decision → Verdict
outcome_verdict (Ok answer) = verdict.Done
outcome_verdict (Err d) = d.verdict

abbrev pub outcome_report : {A : Type 0} → Result A Decision → List ℕ
outcome_report (Ok answer) = []
outcome_report (Err d) = d.report.items

abbrev pub outcomes : {A : Type 0} → Says (Result A Decision)
outcomes = record { verdict = outcome_verdict; report = outcome_report }

-- The inputs are read in order until one is bad, and give this answer or none. Whether it is an answer depends on the answer itself, on the
-- bytes that the inputs give, and on the verdict and the report.
pub record Gives {X : Type 0} (says : Says X) (sources : List Source) (IsAnswer : X → List (List ℕ) → Verdict → List ℕ → Type 0) (result : Result X RunFault) : Type 0 where
  pub answered : IfOk result (λ x. IsAnswered sources (IsAnswer x) (says.verdict x) (says.report x))
  pub worked : OnOk result (AllHaveWorked sources)
  pub gave_up : IfErr result (StopsReading sources)
  pub within : AreWithin sources
  pub ended : IfOk result (λ x. EndsAt (says.verdict x) sources)

-- the same for a decision
abbrev pub Decides : (sources : List Source) → (IsAnswer : List (List ℕ) → Verdict → List ℕ → Type 0) → (result : Result Decision RunFault) → Type 0
Decides sources IsAnswer result = Gives decisions sources (λ d. IsAnswer) result

-- ---- and what is written

-- the output failed, or took no byte of a write
abbrev pub HasStopped : (old new : Device) → Type 0
HasStopped old new = HasFailed old new ⊎ HasStalled old new

-- a report is written whole, or a prefix of it
pub record IsWritten (d : Decision) (old new : Device) (result : Result Verdict RunFault) : Type 0 where
  pub verdict_is : IfOk result (λ v. v ≡ d.verdict)
  pub sent : OnOk result (Appends old.bytes new.bytes d.report.items)
  pub worked : OnOk result (HasWorked old new)
  pub fault : IfErr result (λ fault. fault ≡ run.WriteFailed)
  pub stopped : OnErr result (HasStopped old new)
  pub front : OnErr result (SendsFront old new d.report.items)

-- the same for a decision that may have failed: then nothing is written
abbrev pub IsSent : Result Decision RunFault → (old new : Device) → Result Verdict RunFault → Type 0
IsSent (Ok d) old new result = IsWritten d old new result
IsSent (Err fault) old new result = (result ≡ Err fault) × (new ≡ old)

-- for some bytes that the inputs give there is an answer, and this is known of its report
pub record Answers (sources : List Source) (IsAnswer : List (List ℕ) → Verdict → List ℕ → Type 0) (v : Verdict) (P : List ℕ → Type 0) : Type 0 where
  pub report : List ℕ
  pub answered : IsAnswered sources IsAnswer v report
  pub reported : P report

-- What was written, by why there is no answer: nothing if an input failed or memory ran out; a prefix of the report of
-- an answer if the output failed or took no byte of a write.
abbrev pub GivesUp : List Source → (List (List ℕ) → Verdict → List ℕ → Type 0) → (out_old out_new : Device) → RunFault → Type 0
GivesUp sources IsAnswer out_old out_new run.ReadFailed = OneHasFailed sources × (out_new ≡ out_old)
GivesUp sources IsAnswer out_old out_new run.WriteFailed =
    HasStopped out_old out_new × AllHaveWorked sources × (v : Verdict) × Answers sources IsAnswer v (SendsFront out_old out_new)
GivesUp sources IsAnswer out_old out_new run.NoMemory = AllHaveWorked sources × (out_new ≡ out_old)

-- A call by inputs, which are read in order until one is bad, and an output: if it gives a verdict, that is an answer on
-- bytes that the inputs give, its report was written, and no device failed; otherwise it says why, and what was written.
-- Each input is read to its end or to one byte past its limit and no further, and none after one that is bad.
pub record IsRun (sources : List Source) (IsAnswer : List (List ℕ) → Verdict → List ℕ → Type 0) (out_old out_new : Device) (result : Result Verdict RunFault) : Type 0 where
  pub answered : IfOk result (λ v. Answers sources IsAnswer v (Appends out_old.bytes out_new.bytes))
  pub worked : OnOk result (AllHaveWorked sources × HasWorked out_old out_new)
  pub gave_up : IfErr result (GivesUp sources IsAnswer out_old out_new)
  pub within : AreWithin sources
  pub ended : IfOk result (λ v. EndsAt v sources)
