-- What was found, written.
use Rattle.std.proofs.Common.{◌≡◌, ℕ, List, Result, Ok, Err, IfSome, IsTrue, inl, inr, refl, sym, subst}
use Rattle.std.specs.Option.{is_some}
use Rattle.std.specs.Io.KnownBytes.{Appends}
use Rattle.io_devices.specs.Devices.{Device, HasWorked}
use Rattle.io_devices.specs.Outputs.{SendsFront}
use Rattle.engine_stages.specs.declared.decisions.Decision.{Decision}
use Rattle.engine_stages.specs.declared.faults.RunFault.{RunFault}
use Rattle.engine_stages.specs.declared.faults.RunFault.TheVariants as run
use Rattle.engine_stages.specs.declared.verdicts.Verdict.{Verdict}
use Rattle.engine_stages.specs.Runs.{Gives, HasStopped, StopsReading, outcomes}
use Rattle.engine_stages.specs.Sources.{Source, AllHaveWorked}
use Rattle.game_exits.specs.Exits.{status_of}
use Rattle.reply_calls.specs.declared.printed.Printed.{Printed}
use Rattle.reply_calls.specs.declared.ended.Ended.{Ended}
use Rattle.reply_calls.specs.Endings.{status_of_found, refused_of}
use Rattle.reply_calls.specs.Calls.{StopsOutput, StopsShowing, IsWriting, StopsWriting, GivesUpBy, IsReplying}

-- why an output stopped

pub keeping_failed : (Holds : List ℕ → Type 0) (HasFailed : Type 0) (printed : Printed) (out : Device) → IsTrue (is_some printed.kept) → HasFailed → StopsOutput Holds HasFailed printed out out
keeping_failed Holds HasFailed printed out some failed = inl (some, failed, refl)

pub sending_stopped : (Holds : List ℕ → Type 0) (HasFailed : Type 0) (printed : Printed) (out_old out_new : Device) → IfSome printed.kept (λ text. Holds text.items) → HasStopped out_old out_new
    → SendsFront out_old out_new printed.report.items → StopsOutput Holds HasFailed printed out_old out_new
sending_stopped Holds HasFailed printed out_old out_new kept stopped front = inr (kept, stopped, front)

-- it is written
pub written : {A : Type 0} (Shows : Result A Decision → Printed → Type 0) (ends : A → ℕ) (Holds : List ℕ → Type 0) (HasFailed : Type 0) (found : Result A Decision) (out_old out_new : Device) (printed : Printed) (ended : Ended)
    → Shows found printed → Appends out_old.bytes out_new.bytes printed.report.items → IfSome printed.kept (λ text. Holds text.items)
    → status_of ended.exit ≡ status_of_found ends found → ended.refused ≡ refused_of found → HasWorked out_old out_new
    → IsWriting Shows ends Holds HasFailed found out_old out_new (Ok ended)
written Shows ends Holds HasFailed found out_old out_new printed ended shown sent kept status refused worked =
    record {
      written = record { printed = printed; shown = shown; sent = sent; kept = kept; status = status; refused = refused };
      worked = worked;
      gave_up = tt;
    }

-- an output failed, or memory was refused
pub output_failed : {A : Type 0} (Shows : Result A Decision → Printed → Type 0) (ends : A → ℕ) (Holds : List ℕ → Type 0) (HasFailed : Type 0) (found : Result A Decision) (out_old out_new : Device) (printed : Printed) (fault : RunFault)
    → fault ≡ run.WriteFailed → Shows found printed → StopsOutput Holds HasFailed printed out_old out_new → IsWriting Shows ends Holds HasFailed found out_old out_new (Err fault)
output_failed Shows ends Holds HasFailed found out_old out_new printed fault is shown stops =
    let showing : StopsShowing Shows Holds HasFailed found out_old out_new = record { printed = printed; shown = shown; stops = stops } in
    record { written = tt; worked = tt; gave_up = subst (StopsWriting Shows Holds HasFailed found out_old out_new) (sym is) showing }

pub memory_refused : {A : Type 0} (Shows : Result A Decision → Printed → Type 0) (ends : A → ℕ) (Holds : List ℕ → Type 0) (HasFailed : Type 0) (found : Result A Decision) (out : Device)
    → IsWriting Shows ends Holds HasFailed found out out (Err run.NoMemory)
memory_refused Shows ends Holds HasFailed found out = record { written = tt; worked = tt; gave_up = refl }

-- ---- after the inputs are read

gives_up_after : {A : Type 0} (sources : List Source) (IsFound : Result A Decision → List (List ℕ) → Verdict → List ℕ → Type 0) (Shows : Result A Decision → Printed → Type 0) (Holds : List ℕ → Type 0) (HasFailed : Type 0)
    (found : Result A Decision) (out_old out_new : Device) (fault : RunFault) → Gives outcomes sources IsFound (Ok found) → StopsWriting Shows Holds HasFailed found out_old out_new fault
    → GivesUpBy sources IsFound Shows Holds HasFailed out_old out_new fault
gives_up_after sources IsFound Shows Holds HasFailed found out_old out_new run.ReadFailed gives stops = absurd stops
gives_up_after sources IsFound Shows Holds HasFailed found out_old out_new run.WriteFailed gives stops =
    record { worked = gives.worked; found = found; is_found = gives.answered; stops = stops }
gives_up_after sources IsFound Shows Holds HasFailed found out_old out_new run.NoMemory gives stops = (gives.worked, stops)

pub replied : {A : Type 0} (sources : List Source) (IsFound : Result A Decision → List (List ℕ) → Verdict → List ℕ → Type 0) (Shows : Result A Decision → Printed → Type 0) (ends : A → ℕ) (Holds : List ℕ → Type 0) (HasFailed : Type 0)
    (found : Result A Decision) (out_old out_new : Device) (result : Result Ended RunFault) → Gives outcomes sources IsFound (Ok found) → IsWriting Shows ends Holds HasFailed found out_old out_new result
    → IsReplying sources IsFound Shows ends Holds HasFailed out_old out_new result
replied sources IsFound Shows ends Holds HasFailed found out_old out_new (Ok ended) gives writing =
    record {
      replied = record { found = found; is_found = gives.answered; written = writing.written };
      worked = (gives.worked, writing.worked);
      gave_up = tt;
      within = gives.within;
    }
replied sources IsFound Shows ends Holds HasFailed found out_old out_new (Err fault) gives writing =
    record {
      replied = tt;
      worked = tt;
      gave_up = gives_up_after sources IsFound Shows Holds HasFailed found out_old out_new fault gives writing.gave_up;
      within = gives.within;
    }

-- or before
stops_before : {A : Type 0} (sources : List Source) (IsFound : Result A Decision → List (List ℕ) → Verdict → List ℕ → Type 0) (Shows : Result A Decision → Printed → Type 0) (Holds : List ℕ → Type 0) (HasFailed : Type 0)
    (out : Device) (fault : RunFault) → StopsReading sources fault → GivesUpBy sources IsFound Shows Holds HasFailed out out fault
stops_before sources IsFound Shows Holds HasFailed out run.ReadFailed stops = (stops, refl)
stops_before sources IsFound Shows Holds HasFailed out run.WriteFailed stops = absurd stops
stops_before sources IsFound Shows Holds HasFailed out run.NoMemory stops = (stops, refl)

pub stopped : {A : Type 0} (sources : List Source) (IsFound : Result A Decision → List (List ℕ) → Verdict → List ℕ → Type 0) (Shows : Result A Decision → Printed → Type 0) (ends : A → ℕ) (Holds : List ℕ → Type 0) (HasFailed : Type 0)
    (out : Device) (fault : RunFault) → Gives outcomes sources IsFound (Err fault) → IsReplying sources IsFound Shows ends Holds HasFailed out out (Err fault)
stopped sources IsFound Shows ends Holds HasFailed out fault gives =
    record { replied = tt; worked = tt; gave_up = stops_before sources IsFound Shows Holds HasFailed out fault gives.gave_up; within = gives.within }
