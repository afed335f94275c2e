use Rattle.std.proofs.Common.{rules}
use Rattle.game_turns.specs.Checks.{check_play}
use Rattle.game_turns.proofs.machine.Machine.allowed_play.Goals as goal

pub returns-in-Err-clause-reported : goal.returns-in-Err-clause-reported
unfolding check_play
returns-in-Err-clause-reported c = search rules
