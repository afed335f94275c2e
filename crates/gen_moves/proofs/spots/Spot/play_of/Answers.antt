use Rattle.std.proofs.Common.{rules}
use Rattle.gen_moves.proofs.spots.Spot.play_of.Goals as goal

pub shortened-requires : goal.shortened-requires
shortened-requires c = search rules
