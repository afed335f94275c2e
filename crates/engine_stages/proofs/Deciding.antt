-- Decisions over inputs that are read in order until one is bad.
use Rattle.std.proofs.Common.{◌≡◌, ◌≢◌, ℕ, List, [], ◌∷◌, Result, Ok, Err, IsErrAnd}
use Rattle.engine_stages.specs.declared.decisions.Decision.{Decision}
use Rattle.engine_stages.specs.declared.faults.RunFault.{RunFault}
use Rattle.engine_stages.specs.declared.faults.RunFault.TheVariants as run
use Rattle.engine_stages.specs.declared.verdicts.Verdict.{Verdict}
use Rattle.engine_stages.specs.Runs.{decisions, Decides}
use Rattle.engine_stages.specs.Sources.{Source, AreUntouched}
use Rattle.engine_stages.specs.Stages.{IsRead}
use Rattle.engine_stages.proofs.Giving.{all_worked, all_within, all_ended, some_texts, some_given, gives_failed, gives_stopped, gives_bad, gives_last, gives_good}

-- ---- what is decided if nothing is read

pub decided_unread : (sources : List Source) (IsAnswer : List (List ℕ) → Verdict → List ℕ → Type 0) (d : Decision) → AreUntouched sources
    → ((texts : List (List ℕ)) → IsAnswer texts d.verdict d.report.items) → Decides sources IsAnswer (Ok d)
decided_unread sources IsAnswer d still answer =
    record {
      answered = record { texts = some_texts sources; given = some_given sources; answer = answer (some_texts sources) };
      worked = all_worked sources still;
      gave_up = tt;
      within = all_within sources still;
      ended = all_ended d.verdict sources still;
    }

pub stopped_unread : (sources : List Source) (IsAnswer : List (List ℕ) → Verdict → List ℕ → Type 0) → AreUntouched sources → Decides sources IsAnswer (Err run.NoMemory)
stopped_unread sources IsAnswer still =
    record { answered = tt; worked = tt; gave_up = all_worked sources still; within = all_within sources still; ended = tt }

pub nothing_remaining : (IsAnswer : List (List ℕ) → Verdict → List ℕ → Type 0) (d : Decision) → IsAnswer [] d.verdict d.report.items → Decides [] IsAnswer (Ok d)
nothing_remaining IsAnswer d answer =
    record { answered = record { texts = []; given = tt; answer = answer }; worked = tt; gave_up = tt; within = tt; ended = tt }

-- ---- one more input, before the others

-- it was not read
pub front_failed : {A : Type 0} (s : Source) (sources : List Source) (Means : List ℕ → A → Type 0) (IsAnswer : List (List ℕ) → Verdict → List ℕ → Type 0) (fault : RunFault)
    → IsRead s.limit s.old s.new Means (Err fault) → AreUntouched sources → Decides (s ∷ sources) IsAnswer (Err fault)
front_failed s sources Means IsAnswer fault read still = gives_failed decisions s sources Means (λ d. IsAnswer) fault read still

-- it was read, and there is no memory for more
pub front_stopped : {A : Type 0} (s : Source) (sources : List Source) (Means : List ℕ → A → Type 0) (IsAnswer : List (List ℕ) → Verdict → List ℕ → Type 0) (a : A) (r : Result Decision RunFault)
    → IsRead s.limit s.old s.new Means (Ok a) → AreUntouched sources → IsErrAnd r (λ fault. fault ≡ run.NoMemory) → Decides (s ∷ sources) IsAnswer r
front_stopped s sources Means IsAnswer a r read still refused = gives_stopped decisions s sources Means (λ d. IsAnswer) a r read still refused

-- it is bad
pub front_bad : {A : Type 0} (s : Source) (sources : List Source) (Means : List ℕ → A → Type 0) (IsAnswer : List (List ℕ) → Verdict → List ℕ → Type 0) (a : A) (d : Decision)
    → IsRead s.limit s.old s.new Means (Ok a) → AreUntouched sources
    → ((text : List ℕ) (rest : List (List ℕ)) → Means text a → IsAnswer (text ∷ rest) d.verdict d.report.items) → Decides (s ∷ sources) IsAnswer (Ok d)
front_bad s sources Means IsAnswer a d read still answer = gives_bad decisions s sources Means (λ x. IsAnswer) a d read still answer

-- it is the last
pub last_read : {A : Type 0} (s : Source) (Means : List ℕ → A → Type 0) (IsAnswer : List (List ℕ) → Verdict → List ℕ → Type 0) (a : A) (d : Decision)
    → IsRead s.limit s.old s.new Means (Ok a) → ((text : List ℕ) → Means text a → IsAnswer (text ∷ []) d.verdict d.report.items) → Decides (s ∷ []) IsAnswer (Ok d)
last_read s Means IsAnswer a d read answer = gives_last decisions s Means (λ x. IsAnswer) a d read answer

-- It is good, and the others are read. `extends` says how an answer by the others is one by all, and `spares` that it does
-- not say that this one is bad.
pub front_good : {A : Type 0} (s : Source) (sources : List Source) (Means : List ℕ → A → Type 0) (IsNext IsAnswer : List (List ℕ) → Verdict → List ℕ → Type 0) (a : A) (r : Result Decision RunFault)
    → IsRead s.limit s.old s.new Means (Ok a) → Decides sources IsNext r
    → (extends : (text : List ℕ) (rest : List (List ℕ)) (v : Verdict) (report : List ℕ) → Means text a → IsNext rest v report → IsAnswer (text ∷ rest) v report)
    → (spares : (rest : List (List ℕ)) (v : Verdict) (report : List ℕ) → IsNext rest v report → v ≢ s.bad)
    → Decides (s ∷ sources) IsAnswer r
front_good s sources Means IsNext IsAnswer a r read next extends spares =
    gives_good decisions s sources Means (λ d. IsNext) (λ d. IsAnswer) a r read next (λ d. extends) (λ d. spares)
