use Rattle.std.proofs.Common.{rules}
use Rattle.ref_tiles.proofs.letters.Letter.counted_from.Goals as goal

pub returns : goal.returns
returns c = search rules
