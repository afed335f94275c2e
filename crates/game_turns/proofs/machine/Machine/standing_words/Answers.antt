use Rattle.std.proofs.Common.{rules}
use Rattle.game_turns.proofs.machine.Machine.standing_words.Goals as goal

pub returns-in-Played : goal.returns-in-Played
returns-in-Played c = search rules

pub returns-in-Played-2 : goal.returns-in-Played-2
returns-in-Played-2 c = search rules
