use Rattle.std.proofs.Common.{rules}
use Rattle.game_exits.proofs.exits.Exit.status.Goals as goal

pub returns-in-Usage : goal.returns-in-Usage
returns-in-Usage c = search rules
