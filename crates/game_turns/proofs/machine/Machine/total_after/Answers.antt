use Rattle.std.proofs.Common.{rules}
use Rattle.game_turns.proofs.machine.Machine.total_after.Goals as goal

pub returns : goal.returns
returns c = search rules
