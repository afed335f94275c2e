use Rattle.std.proofs.Common.{arith}
use Rattle.std.proofs.lemmas.Grind.{common_steps}
use Rattle.gcg_write.proofs.lines.push_head.Goals as goal

pub returns-clause-done : goal.returns-clause-done
returns-clause-done c = grind (arith, common_steps)
