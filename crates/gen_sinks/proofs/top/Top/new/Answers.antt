use Rattle.std.proofs.Common.{rules}
use Rattle.gen_sinks.proofs.top.Top.new.Goals as goal

pub returns-clause-items : goal.returns-clause-items
returns-clause-items g c = search rules
