use Rattle.std.proofs.Common.{rules}
use Rattle.ref_tiles.proofs.premiums.Premium.letter_factor.Goals as goal

pub returns-in-DoubleLetter-clause-factor : goal.returns-in-DoubleLetter-clause-factor
returns-in-DoubleLetter-clause-factor c = search rules
