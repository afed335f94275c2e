use Rattle.std.proofs.Common.{rules}
use Rattle.game_turns.proofs.checks.doubled.Goals as goal

pub returns : goal.returns
returns c = search rules
