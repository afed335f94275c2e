use Rattle.std.proofs.Common.{rules}
use Rattle.example_library.proofs.allows.Goals as goal

pub returns-clause-allowed : goal.returns-clause-allowed
returns-clause-allowed c = rw c.in_ok-game.ensures (search rules)
