use Rattle.std.proofs.Common.{rules}
use Rattle.engine.proofs.judging.legal.Goals as goal

pub returns : goal.returns
returns c = search rules
