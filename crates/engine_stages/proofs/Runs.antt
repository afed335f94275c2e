-- Calls: what was decided, and then written.
use Rattle.std.proofs.Common.{◌≡◌, ℕ, List, ◌∷◌, Result, Ok, Err, refl, sym, subst}
use Rattle.io_devices.specs.Devices.{Device}
use Rattle.engine_stages.specs.declared.decisions.Decision.{Decision}
use Rattle.engine_stages.specs.declared.faults.RunFault.{RunFault}
use Rattle.engine_stages.specs.declared.faults.RunFault.TheVariants as run
use Rattle.engine_stages.specs.declared.verdicts.Verdict.{Verdict}
use Rattle.engine_stages.specs.Runs.{IsAnswered, StopsReading, Decides, IsWritten, IsSent, GivesUp, IsRun}
use Rattle.engine_stages.specs.Sources.{Source, AreUntouched, EndsAt}
use Rattle.engine_stages.specs.Stages.{IsRead}
use Rattle.engine_stages.proofs.Deciding.{front_failed}

-- nothing was decided
gives_up : (sources : List Source) (IsAnswer : List (List ℕ) → Verdict → List ℕ → Type 0) (old new : Device) (fault : RunFault) → StopsReading sources fault → new ≡ old
    → GivesUp sources IsAnswer old new fault
gives_up sources IsAnswer old new run.ReadFailed stops same = (stops, same)
gives_up sources IsAnswer old new run.WriteFailed stops same = absurd stops
gives_up sources IsAnswer old new run.NoMemory stops same = (stops, same)

unwritten : (sources : List Source) (IsAnswer : List (List ℕ) → Verdict → List ℕ → Type 0) (old new : Device) (fault : RunFault) → Decides sources IsAnswer (Err fault) → new ≡ old
    → IsRun sources IsAnswer old new (Err fault)
unwritten sources IsAnswer old new fault decides same =
    record { answered = tt; worked = tt; gave_up = gives_up sources IsAnswer old new fault decides.gave_up same; within = decides.within; ended = tt }

-- a decision was written
written : (sources : List Source) (IsAnswer : List (List ℕ) → Verdict → List ℕ → Type 0) (old new : Device) (d : Decision) (result : Result Verdict RunFault)
    → Decides sources IsAnswer (Ok d) → IsWritten d old new result → IsRun sources IsAnswer old new result
written sources IsAnswer old new d (Ok v) decides is =
    record {
      answered = record {
        report = d.report.items;
        answered = subst (λ x. IsAnswered sources IsAnswer x d.report.items) (sym is.verdict_is) decides.answered;
        reported = is.sent;
      };
      worked = (decides.worked, is.worked);
      gave_up = tt;
      within = decides.within;
      ended = subst (λ x. EndsAt x sources) (sym is.verdict_is) decides.ended;
    }
written sources IsAnswer old new d (Err fault) decides is =
    record {
      answered = tt;
      worked = tt;
      gave_up = subst (GivesUp sources IsAnswer old new) (sym is.fault) (
        is.stopped,
        decides.worked,
        d.verdict,
        record { report = d.report.items; answered = decides.answered; reported = is.front },
      );
      within = decides.within;
      ended = tt;
    }

sent_by : (sources : List Source) (IsAnswer : List (List ℕ) → Verdict → List ℕ → Type 0) (old new : Device) (decided : Result Decision RunFault) (result : Result Verdict RunFault)
    → Decides sources IsAnswer decided → IsSent decided old new result → IsRun sources IsAnswer old new result
sent_by sources IsAnswer old new (Ok d) result decides sent = written sources IsAnswer old new d result decides sent
sent_by sources IsAnswer old new (Err fault) result decides sent =
    subst (IsRun sources IsAnswer old new) (sym sent.0) (unwritten sources IsAnswer old new fault decides sent.1)

pub runs : {sources : List Source} {IsAnswer : List (List ℕ) → Verdict → List ℕ → Type 0} {old new : Device} {decided : Result Decision RunFault} {result : Result Verdict RunFault}
    → Decides sources IsAnswer decided → IsSent decided old new result → IsRun sources IsAnswer old new result
runs {sources = sources} {IsAnswer = IsAnswer} {old = old} {new = new} {decided = decided} {result = result} decides sent = sent_by sources IsAnswer old new decided result decides sent

-- the first input is not read
pub runs_unread : {A : Type 0} {s : Source} {sources : List Source} {Means : List ℕ → A → Type 0} {IsAnswer : List (List ℕ) → Verdict → List ℕ → Type 0} {old : Device} {fault : RunFault}
    → IsRead s.limit s.old s.new Means (Err fault) → AreUntouched sources → IsRun (s ∷ sources) IsAnswer old old (Err fault)
runs_unread {s = s} {sources = sources} {Means = Means} {IsAnswer = IsAnswer} {old = old} {fault = fault} read still =
    unwritten (s ∷ sources) IsAnswer old old fault (front_failed s sources Means IsAnswer fault read still) refl
