use Rattle.std.proofs.Common.{rules}
use Rattle.game_turns.proofs.kinds.is_turn.Goals as goal

pub returns-in-Pass : goal.returns-in-Pass
returns-in-Pass c = search rules
