-- A read that was interrupted consumed nothing, and no failure is counted yet.
use Rattle.std.proofs.Common.{◌≡◌, length}
use Rattle.std.specs.Io.KnownBytes.{Keeps}
use Rattle.io_devices.proofs.from_read.FromReadInput.read.Given as goal

abbrev pub invariant-loop : goal.invariant-loop
invariant-loop g l =
    (length l.buf ≡ length l.initial.buf) × Keeps (g.R.Read.remaining l.initial.self.inner) (g.R.Read.remaining l.self.inner)
    × (l.self.failures ≡ l.initial.self.failures)
