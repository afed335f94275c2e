-- The bytes so far are those that were taken from the input, which has worked so far.
use Rattle.std.proofs.Common.{◌+◌, ◌-◌, ◌≤◌, ◌≡◌, vec_len, length}
use Rattle.std.specs.Io.KnownBytes.{Consumes}
use Rattle.io_devices.specs.Devices.{HasWorked}
use Rattle.io_devices.proofs.inputs.read_within.Given as goal

abbrev pub invariant-loop-chunk : goal.invariant-loop-chunk
invariant-loop-chunk g l =
    let old = g.I.Input.device l.initial.input in
    let new = g.I.Input.device l.input in
    record { within : vec_len l.bytes ≤ l.limit + 1; taken : Consumes old.bytes new.bytes l.bytes.items; worked : HasWorked old new; chunk : length l.chunk ≡ 65536 }

abbrev pub decreases-loop-chunk : goal.decreases-loop-chunk
decreases-loop-chunk g l = l.limit + 1 - vec_len l.bytes
