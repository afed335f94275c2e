use Rattle.std.proofs.Common.{◌-◌}
use Rattle.gen_moves.proofs.fronts.+back_over.Given as goal

abbrev pub decreases-back_over : goal.decreases-back_over
decreases-back_over g l = 15 - l.place
