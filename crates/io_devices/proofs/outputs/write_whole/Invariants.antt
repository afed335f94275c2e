-- What is counted as sent was appended, in order, and the output has worked so far.
use Rattle.std.proofs.Common.{length, take, ◌-◌, ◌≤◌}
use Rattle.std.specs.Io.KnownBytes.{Appends}
use Rattle.io_devices.specs.Devices.{HasWorked}
use Rattle.io_devices.proofs.outputs.write_whole.Given as goal

abbrev pub invariant-loop-sent : goal.invariant-loop-sent
invariant-loop-sent g l =
    let old = g.O.Output.device l.initial.output in
    let new = g.O.Output.device l.output in
    record { within : l.sent ≤ length l.bytes; sent : Appends old.bytes new.bytes (take l.sent l.bytes); worked : HasWorked old new }

abbrev pub decreases-loop-sent : goal.decreases-loop-sent
decreases-loop-sent g l = length l.bytes - l.sent
