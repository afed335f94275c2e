use Rattle.std.proofs.Common.{rules}
use Rattle.ref_play.proofs.faults.PlayFault.name.Goals as goal

pub returns-in-Apart : goal.returns-in-Apart
returns-in-Apart c = search rules
