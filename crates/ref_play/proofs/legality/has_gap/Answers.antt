use Rattle.std.proofs.Common.{rules}
use Rattle.ref_play.specs.Legality.{has_gap}
use Rattle.ref_play.proofs.legality.has_gap.Goals as goal

pub returns : goal.returns
unfolding has_gap
returns c = search rules
