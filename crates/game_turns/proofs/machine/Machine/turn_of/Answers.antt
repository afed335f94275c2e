use Rattle.std.proofs.Common.{rules}
use Rattle.game_turns.specs.Changes.{turn_of}
use Rattle.game_turns.proofs.machine.Machine.turn_of.Goals as goal

pub returns-then-is_play : goal.returns-then-is_play
unfolding turn_of
returns-then-is_play c = search rules

pub returns-else-is_play : goal.returns-else-is_play
unfolding turn_of
returns-else-is_play c = search rules
