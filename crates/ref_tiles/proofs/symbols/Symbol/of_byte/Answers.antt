use Rattle.std.proofs.Common.{rules}
use Rattle.ref_tiles.proofs.symbols.Symbol.of_byte.Goals as goal

pub returns-else-byte-lt97 : goal.returns-else-byte-lt97
returns-else-byte-lt97 c = search rules
