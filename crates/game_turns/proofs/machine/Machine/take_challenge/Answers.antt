use Rattle.std.proofs.Common.{rules}
use Rattle.game_turns.specs.Changes.{after_challenge}
use Rattle.game_turns.proofs.machine.Machine.take_challenge.Goals as goal

pub returns : goal.returns
unfolding after_challenge
returns c = search rules
