use Rattle.std.proofs.Common.{rules}
use Rattle.ref_tiles.proofs.rulebook.Rules.premium.Goals as goal

pub returns : goal.returns
returns c = search rules
