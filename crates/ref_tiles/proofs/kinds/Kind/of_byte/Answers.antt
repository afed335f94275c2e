use Rattle.std.proofs.Common.{rules}
use Rattle.ref_tiles.proofs.kinds.Kind.of_byte.Goals as goal

pub returns-then-byte-eq63 : goal.returns-then-byte-eq63
returns-then-byte-eq63 c = search rules
