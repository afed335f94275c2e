use Rattle.std.proofs.Common.{rules}
use Rattle.ref_tiles.proofs.premiums.Premium.word_factor.Goals as goal

pub returns-in-TripleWord-clause-factor : goal.returns-in-TripleWord-clause-factor
returns-in-TripleWord-clause-factor c = search rules
