-- What is read of a sheet in memory.
use Rattle.std.proofs.Common.{◌≡◌, ℕ, List, Result, Ok, Err, IfOk, subst}
use Rattle.io_devices.specs.Devices.{Device}
use Rattle.io_devices.specs.Inputs.{IsInput}
use Rattle.gcg_read.specs.Records.{most_bytes}
use Rattle.engine_stages.specs.declared.faults.RunFault.{RunFault}
use Rattle.engine_stages.specs.Stages.{IsRead}
use Rattle.draft_answers.specs.Given.{device_of, read_of}

-- the text that is read is the front of the bytes
text_read : (input : Device) (bytes text : List ℕ) → input ≡ device_of bytes → IsInput most_bytes input text → text ≡ read_of bytes
text_read input bytes text is given =
    let there : IsInput most_bytes (device_of bytes) text = subst (λ (d : Device). IsInput most_bytes d text) is given in
    there.whole

pub means_read : {A : Type 0} (input new : Device) (bytes : List ℕ) (Means : List ℕ → A → Type 0) (result : Result A RunFault) → input ≡ device_of bytes
    → IsRead most_bytes input new Means result → IfOk result (Means (read_of bytes))
means_read input new bytes Means (Ok a) is read = subst (λ text. Means text a) (text_read input bytes read.taken.text is read.taken.given) read.taken.means
means_read input new bytes Means (Err fault) is read = tt
