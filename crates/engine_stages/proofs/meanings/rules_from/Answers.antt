use Rattle.std.proofs.Common.{rules}
use Rattle.engine_stages.proofs.meanings.rules_from.Goals as goal

pub returns-in-Ok : goal.returns-in-Ok
returns-in-Ok c = search rules
