use Rattle.std.proofs.Common.{rules}
use Rattle.game_turns.specs.Checks.{check_pass}
use Rattle.game_turns.proofs.machine.Machine.check_pass.Goals as goal

pub returns-in_err-check_turn-clause-reported : goal.returns-in_err-check_turn-clause-reported
unfolding check_pass
returns-in_err-check_turn-clause-reported c = search rules
