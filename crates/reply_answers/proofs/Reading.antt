-- What is read of a record in memory.
use Rattle.std.proofs.Common.{arith, ◌≡◌, ℕ, List, Result, Ok, Err, IfOk, IfErr, refl, subst}
use Rattle.io_devices.specs.Devices.{Device}
use Rattle.io_devices.specs.Inputs.{IsInput}
use Rattle.gcg_read.specs.Records.{most_bytes}
use Rattle.engine_stages.specs.declared.faults.RunFault.{RunFault}
use Rattle.engine_stages.specs.declared.faults.RunFault.TheVariants as run
use Rattle.engine_stages.specs.Stages.{IsRead, ReadGivesUp}
use Rattle.reply_answers.specs.Given.{FailsForMemoryAlone, device_of, read_of}

-- the text that is read of a record is the front of its bytes
pub text_read : (input : Device) (game text : List ℕ) → input ≡ device_of game → IsInput most_bytes input text → text ≡ read_of game
text_read input game text is given =
    let there : IsInput most_bytes (device_of game) text = subst (λ (d : Device). IsInput most_bytes d text) is given in
    there.whole

pub means_read : {A : Type 0} (input new : Device) (game : List ℕ) (Means : List ℕ → A → Type 0) (result : Result A RunFault) → input ≡ device_of game
    → IsRead most_bytes input new Means result → IfOk result (Means (read_of game))
means_read input new game Means (Ok a) is read =
    subst (λ text. Means text a) (text_read input game read.taken.text is read.taken.given) read.taken.means
means_read input new game Means (Err fault) is read = tt

no_failure : (input new : Device) (why : RunFault) → input.failures ≡ 0 → new.failures ≡ 0 → ReadGivesUp why input new → why ≡ run.NoMemory
no_failure input new run.ReadFailed none still failed = let more = failed.failures in absurd (omega (arith, none, still, more))
no_failure input new run.WriteFailed none still never = absurd never
no_failure input new run.NoMemory none still worked = refl

-- and no read of it fails
pub memory_alone : {A : Type 0} (input new : Device) (Means : List ℕ → A → Type 0) (result : Result A RunFault) → input.failures ≡ 0 → new.failures ≡ 0
    → IsRead most_bytes input new Means result → FailsForMemoryAlone result
memory_alone input new Means (Ok a) none still read = tt
memory_alone input new Means (Err why) none still read = no_failure input new why none still read.gave_up

pub text_alone : {A : Type 0} (input new : Device) (result : Result A RunFault) → input.failures ≡ 0 → new.failures ≡ 0
    → IfErr result (λ why. ReadGivesUp why input new) → FailsForMemoryAlone result
text_alone input new (Ok a) none still stops = tt
text_alone input new (Err why) none still stops = no_failure input new why none still stops
