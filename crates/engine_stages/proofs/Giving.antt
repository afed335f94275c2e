-- Answers over inputs that are read in order until one is bad.
use Rattle.std.proofs.Common.{◌≡◌, ◌≢◌, ℕ, ◌+◌, ◌≤◌, List, [], ◌∷◌, Option, Some, None, Result, Ok, Err, IfSome, IsErrAnd, length, take, arith, refl, sym, subst, inl, inr}
use Rattle.std.specs.Io.KnownBytes.{Consumes}
use Rattle.std.proofs.lemmas.List.{length-take}
use Rattle.io_devices.specs.Devices.{Device, HasWorked}
use Rattle.io_devices.specs.Inputs.{TakesAtMost}
use Rattle.engine_stages.specs.declared.faults.RunFault.{RunFault}
use Rattle.engine_stages.specs.declared.faults.RunFault.TheVariants as run
use Rattle.engine_stages.specs.declared.verdicts.Verdict.{Verdict}
use Rattle.engine_stages.specs.Runs.{Says, StopsReading, Gives}
use Rattle.engine_stages.specs.Sources.{Source, AreGiven, AllHaveWorked, AreWithin, AreUntouched, EndsAt}
use Rattle.engine_stages.specs.Stages.{ReadGivesUp, IsRead}

-- ---- inputs that are not touched

worked_still : (old new : Device) → new ≡ old → HasWorked old new
worked_still old new same = subst (λ d. HasWorked old d) (sym same) (record { failures = refl; stalls = refl })

pub all_worked : (sources : List Source) → AreUntouched sources → AllHaveWorked sources
all_worked [] still = tt
all_worked (s ∷ sources) still = (worked_still s.old s.new still.0, all_worked sources still.1)

consumes_none : (bytes : Option (List ℕ)) → Consumes bytes bytes []
consumes_none None = tt
consumes_none (Some all) = refl

takes_none : (most : ℕ) (old new : Device) → new ≡ old → TakesAtMost most old new
takes_none most old new same =
    subst (λ d. TakesAtMost most old d) (sym same) (record { taken = []; bound = omega arith; rest = consumes_none old.bytes })

pub all_within : (sources : List Source) → AreUntouched sources → AreWithin sources
all_within [] still = tt
all_within (s ∷ sources) still = (takes_none (s.limit + 1) s.old s.new still.0, all_within sources still.1)

pub all_ended : (v : Verdict) (sources : List Source) → AreUntouched sources → EndsAt v sources
all_ended v [] still = tt
all_ended v (s ∷ sources) still = (λ bad. still.1, all_ended v sources still.1)

-- they give some bytes all the same
abbrev given_of : (limit : ℕ) → Option (List ℕ) → List ℕ
given_of limit None = []
given_of limit (Some all) = take (limit + 1) all

given_few : (limit : ℕ) (bytes : Option (List ℕ)) → length (given_of limit bytes) ≤ limit + 1
given_few limit None = omega arith
given_few limit (Some all) = omega (arith, length-take (limit + 1) all)

given_whole : (limit : ℕ) (bytes : Option (List ℕ)) → IfSome bytes (λ all. given_of limit bytes ≡ take (limit + 1) all)
given_whole limit None = tt
given_whole limit (Some all) = refl

pub some_texts : List Source → List (List ℕ)
some_texts [] = []
some_texts (s ∷ sources) = given_of s.limit s.old.bytes ∷ some_texts sources

pub some_given : (sources : List Source) → AreGiven sources (some_texts sources)
unfolding some_texts
some_given [] = tt
some_given (s ∷ sources) = (record { bound = given_few s.limit s.old.bytes; whole = given_whole s.limit s.old.bytes }, some_given sources)

-- ---- one more input, before the others

-- it was not read
front_gave_up : (s : Source) (sources : List Source) (fault : RunFault) → AreUntouched sources → ReadGivesUp fault s.old s.new → StopsReading (s ∷ sources) fault
front_gave_up s sources run.ReadFailed still failed = inl (failed, all_worked sources still)
front_gave_up s sources run.WriteFailed still never = absurd never
front_gave_up s sources run.NoMemory still worked = (worked, all_worked sources still)

pub gives_failed : {A X : Type 0} (says : Says X) (s : Source) (sources : List Source) (Means : List ℕ → A → Type 0) (IsAnswer : X → List (List ℕ) → Verdict → List ℕ → Type 0) (fault : RunFault)
    → IsRead s.limit s.old s.new Means (Err fault) → AreUntouched sources → Gives says (s ∷ sources) IsAnswer (Err fault)
gives_failed says s sources Means IsAnswer fault read still =
    record {
      answered = tt;
      worked = tt;
      gave_up = front_gave_up s sources fault still read.gave_up;
      within = (read.within, all_within sources still);
      ended = tt;
    }

-- it was read, and there is no memory for more
pub gives_stopped : {A X : Type 0} (says : Says X) (s : Source) (sources : List Source) (Means : List ℕ → A → Type 0) (IsAnswer : X → List (List ℕ) → Verdict → List ℕ → Type 0) (a : A) (r : Result X RunFault)
    → IsRead s.limit s.old s.new Means (Ok a) → AreUntouched sources → IsErrAnd r (λ fault. fault ≡ run.NoMemory) → Gives says (s ∷ sources) IsAnswer r
gives_stopped says s sources Means IsAnswer a (Ok x) read still refused = absurd refused
gives_stopped says s sources Means IsAnswer a (Err fault) read still refused =
    subst (λ f. Gives says (s ∷ sources) IsAnswer (Err f)) (sym refused) (record {
      answered = tt;
      worked = tt;
      gave_up = (read.worked, all_worked sources still);
      within = (read.within, all_within sources still);
      ended = tt;
    })

-- it is bad
pub gives_bad : {A X : Type 0} (says : Says X) (s : Source) (sources : List Source) (Means : List ℕ → A → Type 0) (IsAnswer : X → List (List ℕ) → Verdict → List ℕ → Type 0) (a : A) (x : X)
    → IsRead s.limit s.old s.new Means (Ok a) → AreUntouched sources
    → ((text : List ℕ) (rest : List (List ℕ)) → Means text a → IsAnswer x (text ∷ rest) (says.verdict x) (says.report x)) → Gives says (s ∷ sources) IsAnswer (Ok x)
gives_bad says s sources Means IsAnswer a x read still answer =
    record {
      answered = record {
        texts = read.taken.text ∷ some_texts sources;
        given = (read.taken.given, some_given sources);
        answer = answer read.taken.text (some_texts sources) read.taken.means;
      };
      worked = (read.worked, all_worked sources still);
      gave_up = tt;
      within = (read.within, all_within sources still);
      ended = (λ bad. still, all_ended (says.verdict x) sources still);
    }

-- it is the last
pub gives_last : {A X : Type 0} (says : Says X) (s : Source) (Means : List ℕ → A → Type 0) (IsAnswer : X → List (List ℕ) → Verdict → List ℕ → Type 0) (a : A) (x : X)
    → IsRead s.limit s.old s.new Means (Ok a) → ((text : List ℕ) → Means text a → IsAnswer x (text ∷ []) (says.verdict x) (says.report x)) → Gives says (s ∷ []) IsAnswer (Ok x)
gives_last says s Means IsAnswer a x read answer =
    record {
      answered = record {
        texts = read.taken.text ∷ [];
        given = (read.taken.given, tt);
        answer = answer read.taken.text read.taken.means;
      };
      worked = (read.worked, tt);
      gave_up = tt;
      within = (read.within, tt);
      ended = (λ bad. tt, tt);
    }

-- It is good, and the others are read. `extends` says how an answer by the others is one by all, and `spares` that it does
-- not say that this one is bad.
later_gave_up : (s : Source) (sources : List Source) (fault : RunFault) → HasWorked s.old s.new → StopsReading sources fault → StopsReading (s ∷ sources) fault
later_gave_up s sources run.ReadFailed worked failed = inr (worked, failed)
later_gave_up s sources run.WriteFailed worked never = absurd never
later_gave_up s sources run.NoMemory worked all = (worked, all)

pub gives_good : {A X : Type 0} (says : Says X) (s : Source) (sources : List Source) (Means : List ℕ → A → Type 0) (IsNext IsAnswer : X → List (List ℕ) → Verdict → List ℕ → Type 0) (a : A) (r : Result X RunFault)
    → IsRead s.limit s.old s.new Means (Ok a) → Gives says sources IsNext r
    → (extends : (x : X) (text : List ℕ) (rest : List (List ℕ)) (v : Verdict) (report : List ℕ) → Means text a → IsNext x rest v report → IsAnswer x (text ∷ rest) v report)
    → (spares : (x : X) (rest : List (List ℕ)) (v : Verdict) (report : List ℕ) → IsNext x rest v report → v ≢ s.bad)
    → Gives says (s ∷ sources) IsAnswer r
gives_good says s sources Means IsNext IsAnswer a (Ok x) read next extends spares =
    let there = next.answered in
    record {
      answered = record {
        texts = read.taken.text ∷ there.texts;
        given = (read.taken.given, there.given);
        answer = extends x read.taken.text there.texts (says.verdict x) (says.report x) read.taken.means there.answer;
      };
      worked = (read.worked, next.worked);
      gave_up = tt;
      within = (read.within, next.within);
      ended = (λ bad. absurd (spares x there.texts (says.verdict x) (says.report x) there.answer bad), next.ended);
    }
gives_good says s sources Means IsNext IsAnswer a (Err fault) read next extends spares =
    record {
      answered = tt;
      worked = tt;
      gave_up = later_gave_up s sources fault read.worked next.gave_up;
      within = (read.within, next.within);
      ended = tt;
    }
