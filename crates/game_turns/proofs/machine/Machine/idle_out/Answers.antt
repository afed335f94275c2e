use Rattle.std.proofs.Common.{rules}
use Rattle.game_turns.specs.Changes.{after_idle_pass}
use Rattle.game_turns.proofs.machine.Machine.idle_out.Goals as goal

pub returns : goal.returns
unfolding after_idle_pass
returns c = search rules
