use Rattle.std.proofs.Common.{rules}
use Rattle.game_turns.specs.Checks.{check_last_rack}
use Rattle.game_turns.proofs.machine.Machine.check_last_rack.Goals as goal

pub returns-in-Some-clause-reported : goal.returns-in-Some-clause-reported
unfolding check_last_rack
returns-in-Some-clause-reported c = search rules
