use Rattle.std.proofs.Common.{rules}
use Rattle.game_turns.specs.Tallies.{tally}
use Rattle.game_turns.proofs.machine.Machine.new.Goals as goal

pub returns-clause-state : goal.returns-clause-state
unfolding tally
returns-clause-state c = search rules
