-- A sheet in memory, as an input.
use Rattle.std.specs.Prelude.{ℕ, ◌+◌, List, take, Some}
use Rattle.io_devices.specs.Devices.{Device}
use Rattle.gcg_read.specs.Records.{most_bytes}

-- bytes in memory, of which nothing was read yet and no read fails
abbrev pub device_of : (bytes : List ℕ) → Device
device_of bytes = record { bytes = Some bytes; failures = 0; stalls = 0 }

-- what is read of them: all, or those up to one past the most that a record may have
abbrev pub read_of : (bytes : List ℕ) → List ℕ
read_of bytes = take (most_bytes + 1) bytes
