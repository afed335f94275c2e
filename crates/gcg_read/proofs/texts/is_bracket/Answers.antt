use Rattle.std.proofs.Common.{rules}
use Rattle.gcg_read.proofs.texts.is_bracket.Goals as goal

pub returns-else-byte-eq40 : goal.returns-else-byte-eq40
returns-else-byte-eq40 c = search rules
