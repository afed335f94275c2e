use Rattle.std.proofs.Common.{rules}
use Rattle.ref_play.specs.Legality.{is_too_short}
use Rattle.ref_play.proofs.judging.is_too_short.Goals as goal

pub returns : goal.returns
unfolding is_too_short
returns c = search rules
