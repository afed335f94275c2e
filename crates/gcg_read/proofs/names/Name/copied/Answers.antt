use Rattle.std.proofs.Common.{rules}
use Rattle.gcg_read.proofs.names.Name.copied.Goals as goal

pub returns : goal.returns
returns c = search rules
