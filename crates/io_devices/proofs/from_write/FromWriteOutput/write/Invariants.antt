-- A write that was interrupted appended nothing, and nothing is counted yet.
use Rattle.std.proofs.Common.{◌≡◌}
use Rattle.std.specs.Io.KnownBytes.{Keeps}
use Rattle.io_devices.proofs.from_write.FromWriteOutput.write.Given as goal

abbrev pub invariant-loop : goal.invariant-loop
invariant-loop g l =
    Keeps (g.W.Write.contents l.initial.self.inner) (g.W.Write.contents l.self.inner)
    × (l.self.failures ≡ l.initial.self.failures) × (l.self.stalls ≡ l.initial.self.stalls)
