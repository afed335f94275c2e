use Rattle.std.proofs.Common.{rules}
use Rattle.game_turns.proofs.machine.Machine.is_over.Goals as goal

pub returns-else-self-2 : goal.returns-else-self-2
returns-else-self-2 c = search rules
