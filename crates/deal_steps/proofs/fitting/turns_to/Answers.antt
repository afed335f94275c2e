use Rattle.std.proofs.Common.{rules}
use Rattle.deal_steps.proofs.fitting.turns_to.Goals as goal

pub returns-in-Tries : goal.returns-in-Tries
returns-in-Tries c = search rules
