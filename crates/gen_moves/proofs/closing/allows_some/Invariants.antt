use Rattle.std.proofs.Common.{◌≡◌, ◌<◌, ℕ, false}
use Rattle.gen_moves.specs.Closing.{lays}
use Rattle.gen_moves.proofs.closing.allows_some.Given as goal

abbrev pub invariant-loop-letter : goal.invariant-loop-letter
invariant-loop-letter l = record { passed : (k : ℕ) → k < l.letter → lays l.free l.rack k ≡ false }
