use Rattle.std.proofs.Common.{rules}
use Rattle.gcg_read.proofs.texts.Text.as_slice.Goals as goal

pub returns-clause-symbols : goal.returns-clause-symbols
returns-clause-symbols c = search rules
