use Rattle.std.proofs.Common.{arith}
use Rattle.std.proofs.lemmas.Grind.{common_steps}
use Rattle.gcg_write.proofs.fields.push_position.Goals as goal

pub returns-in_ok-push-in-Across-clause-done : goal.returns-in_ok-push-in-Across-clause-done
returns-in_ok-push-in-Across-clause-done c = grind (arith, common_steps)

pub returns-in_ok-push_number-in-Down-clause-done : goal.returns-in_ok-push_number-in-Down-clause-done
returns-in_ok-push_number-in-Down-clause-done c = grind (arith, common_steps)
