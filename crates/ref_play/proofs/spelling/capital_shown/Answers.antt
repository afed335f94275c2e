use Rattle.std.proofs.Common.{rules}
use Rattle.ref_play.proofs.spelling.capital_shown.Goals as goal

pub returns-in-Some : goal.returns-in-Some
returns-in-Some c = search rules
