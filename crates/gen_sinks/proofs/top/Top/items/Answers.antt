use Rattle.std.proofs.Common.{rules}
use Rattle.gen_sinks.proofs.top.Top.items.Goals as goal

pub returns : goal.returns
returns g c = search rules
