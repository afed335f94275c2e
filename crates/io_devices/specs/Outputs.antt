-- What the writes to an output add to what it took.
use Rattle.std.specs.Prelude.{◌≡◌, ℕ, ◌<◌, ◌≤◌, List, length, take, Result, MatchResult, IfOk}
use Rattle.std.specs.Io.KnownBytes.{Appends, WriteAppends}
use Rattle.io_devices.specs.Devices.{Device, HasFailed, HasWorked, HasStalled}
use Rattle.io_devices.specs.declared.failing.WriteGaveUp.{WriteGaveUp}
use Rattle.io_devices.specs.declared.failing.WriteGaveUp.TheVariants.{TookNone, Failed}

-- The counts of an output after a write of `len` bytes of which it took n: it stalled if it took none of one or more.
pub record Takes (n len : ℕ) (old new : Device) : Type 0 where
  pub some : 0 < n → HasWorked old new
  pub none : n ≡ 0 → 0 < len → HasStalled old new
  pub empty : len ≡ 0 → HasWorked old new

-- One write of `buf`: the output took the first bytes of it, and a write that failed took none.
pub record Writes {E : Type 0} (old new : Device) (result : Result ℕ E) (buf : List ℕ) : Type 0 where
  pub bound : IfOk result (λ n. n ≤ length buf)
  pub bytes : WriteAppends old.bytes new.bytes result buf
  pub count : MatchResult result (λ n. Takes n (length buf) old new) (λ _. HasFailed old new)

-- a prefix of the bytes was written, and not all of them
pub record SendsFront (old new : Device) (bytes : List ℕ) : Type 0 where
  pub sent : ℕ
  pub short : sent < length bytes
  pub front : Appends old.bytes new.bytes (take sent bytes)

-- whether the output failed or took no byte, by the reason why a whole write gave up
abbrev pub WriteStops : WriteGaveUp → Device → Device → Type 0
WriteStops TookNone old new = HasStalled old new
WriteStops Failed old new = HasFailed old new
