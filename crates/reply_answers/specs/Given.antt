-- The record that a request gives.
use Rattle.std.specs.Prelude.{◌≡◌, ℕ, ◌+◌, Bool, true, false, List, take, Some, Result, IfErr}
use Rattle.io_devices.specs.Devices.{Device}
use Rattle.gcg_read.specs.Records.{most_bytes}
use Rattle.engine_stages.specs.declared.faults.RunFault.{RunFault}
use Rattle.engine_stages.specs.declared.faults.RunFault.TheVariants as run
use Rattle.engine.specs.declared.judging.Judging.{Judging}
use Rattle.engine.specs.declared.judging.Judging.TheVariants as judging

-- the bytes that a command reads of a record of these: all of them, or those up to one past the most that a record may have
abbrev pub read_of : (game : List ℕ) → List ℕ
read_of game = take (most_bytes + 1) game

-- how a game is judged, with a search for a deal or without
abbrev pub judging_by : (settle : Bool) → Judging
judging_by true = judging.BySearch
judging_by false = judging.ByRule

-- a record in memory, of which nothing was read yet and no read fails
abbrev pub device_of : (game : List ℕ) → Device
device_of game = record { bytes = Some game; failures = 0; stalls = 0 }

-- A call has no result only if memory was refused.
abbrev pub FailsForMemoryAlone : {A : Type 0} → Result A RunFault → Type 0
FailsForMemoryAlone result = IfErr result (λ why. why ≡ run.NoMemory)
