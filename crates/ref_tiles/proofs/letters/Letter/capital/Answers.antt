use Rattle.std.proofs.Common.{rules}
use Rattle.ref_tiles.proofs.letters.Letter.capital.Goals as goal

pub returns : goal.returns
returns c = search rules
