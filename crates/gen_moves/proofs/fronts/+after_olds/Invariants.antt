use Rattle.std.proofs.Common.{◌-◌}
use Rattle.gen_moves.proofs.fronts.+after_olds.Given as goal

abbrev pub decreases-after_olds : goal.decreases-after_olds
decreases-after_olds l = 15 - l.place
