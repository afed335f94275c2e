use Rattle.std.proofs.Common.{◌≡◌, ◌++◌}
use Rattle.repair_slips.specs.Each.{lists_below}
use Rattle.repair_slips.specs.Spellings.{twisted_at}
use Rattle.repair_slips.proofs.spellings.push_twisted.Given as goal

abbrev pub invariant-loop-place : goal.invariant-loop-place
invariant-loop-place l = l.slips.items ≡ l.initial.slips.items ++ lists_below (twisted_at l.word) l.place
