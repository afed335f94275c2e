use Rattle.std.proofs.Common.{rules}
use Rattle.game_turns.proofs.machine.Machine.last_play.Goals as goal

pub returns-in-TakenBack : goal.returns-in-TakenBack
returns-in-TakenBack c = search rules
