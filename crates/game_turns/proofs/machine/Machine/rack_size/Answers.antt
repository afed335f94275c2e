use Rattle.std.proofs.Common.{rules}
use Rattle.game_turns.proofs.machine.Machine.rack_size.Goals as goal

pub returns : goal.returns
returns c = search rules
