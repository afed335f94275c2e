use Rattle.std.proofs.Common.{rules}
use Rattle.game_turns.proofs.sides.Sides.set_timed.Goals as goal

pub returns-in-First : goal.returns-in-First
returns-in-First c = search rules
