use Rattle.std.proofs.Common.{rules}
use Rattle.ref_tiles.proofs.parts.is_parameter.Goals as goal

pub returns-then-number-ge1 : goal.returns-then-number-ge1
returns-then-number-ge1 c = search rules
