-- What the reads of an input give, and what they leave.
use Rattle.std.specs.Prelude.{◌≡◌, ℕ, ◌+◌, ◌≤◌, List, length, take, Result, MatchResult, IfOk, IfSome}
use Rattle.std.specs.Io.KnownBytes.{Consumes, ReadConsumes}
use Rattle.io_devices.specs.Devices.{Device, HasFailed, HasWorked}
use Rattle.io_devices.specs.declared.failing.ReadGaveUp.{ReadGaveUp}
use Rattle.io_devices.specs.declared.failing.ReadGaveUp.TheVariants.{NoMemory, Failed}

-- One read into a buffer, which then holds `buf`: at most as many bytes as the buffer has; if the bytes of the input
-- are known they are its next ones, and they are none only at its end or if the buffer is empty. A read that failed
-- took no known byte.
pub record Reads {E : Type 0} (old new : Device) (result : Result ℕ E) (buf : List ℕ) : Type 0 where
  pub bound : IfOk result (λ n. n ≤ length buf)
  pub bytes : ReadConsumes old.bytes new.bytes result buf
  pub count : MatchResult result (λ _. HasWorked old new) (λ _. HasFailed old new)

-- The bytes that an input gives to one who reads it whole; if it is longer than the limit, its first limit + 1. If the
-- bytes of the input are not known, this says only that they are no more than that.
pub record IsInput (limit : ℕ) (input : Device) (bytes : List ℕ) : Type 0 where
  pub bound : length bytes ≤ limit + 1
  pub whole : IfSome input.bytes (λ all. bytes ≡ take (limit + 1) all)

-- at most `most` bytes were taken from an input, and what is left is all that came after them
pub record TakesAtMost (most : ℕ) (old new : Device) : Type 0 where
  pub taken : List ℕ
  pub bound : length taken ≤ most
  pub rest : Consumes old.bytes new.bytes taken

-- whether the input failed, by the reason why a whole read gave up
abbrev pub ReadStops : ReadGaveUp → Device → Device → Type 0
ReadStops NoMemory old new = HasWorked old new
ReadStops Failed old new = HasFailed old new
