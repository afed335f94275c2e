use Rattle.std.proofs.Common.{rules}
use Rattle.deal_steps.proofs.fitting.is_thrown_by.Goals as goal

pub returns-in-ThrowsUnknown : goal.returns-in-ThrowsUnknown
returns-in-ThrowsUnknown c = search rules
