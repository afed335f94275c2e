use Rattle.std.proofs.Common.{rules}
use Rattle.ref_play.specs.Legality.{is_apart}
use Rattle.ref_play.proofs.legality.is_apart.Goals as goal

pub returns-then-not-has_no_tile : goal.returns-then-not-has_no_tile
unfolding is_apart
returns-then-not-has_no_tile c = search rules
