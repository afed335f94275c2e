use Rattle.std.proofs.Common.{rules}
use Rattle.engine.proofs.tidying.tidy.Goals as goal

pub returns : goal.returns
returns c = search rules
