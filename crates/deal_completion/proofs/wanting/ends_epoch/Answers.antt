use Rattle.std.proofs.Common.{rules}
use Rattle.deal_completion.proofs.wanting.ends_epoch.Goals as goal

pub returns-in-Turns-default-ThrowsUnknown : goal.returns-in-Turns-default-ThrowsUnknown
returns-in-Turns-default-ThrowsUnknown c = search rules
