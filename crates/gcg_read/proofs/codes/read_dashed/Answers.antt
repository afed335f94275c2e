use Rattle.std.proofs.Common.{arith}
use Rattle.std.proofs.lemmas.Grind.{common_steps}
use Rattle.gcg_read.specs.Codes.{dashed_of}
use Rattle.gcg_read.proofs.codes.read_dashed.Goals as goal

pub returns-in-45 : goal.returns-in-45
unfolding dashed_of
returns-in-45 c = grind (arith, common_steps)
