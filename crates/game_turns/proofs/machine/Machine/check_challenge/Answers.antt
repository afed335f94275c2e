use Rattle.std.proofs.Common.{rules}
use Rattle.game_turns.specs.Checks.{check_challenge}
use Rattle.game_turns.proofs.machine.Machine.check_challenge.Goals as goal

pub returns-then-not-any_listed-clause-reported : goal.returns-then-not-any_listed-clause-reported
unfolding check_challenge
returns-then-not-any_listed-clause-reported c = search rules
