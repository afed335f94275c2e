use Rattle.std.proofs.Common.{◌≡◌, ◌++◌}
use Rattle.repair_slips.specs.Each.{lists_below}
use Rattle.repair_slips.specs.Misreadings.{misread_at}
use Rattle.repair_slips.proofs.misreadings.push_word.Given as goal

abbrev pub invariant-loop-place : goal.invariant-loop-place
invariant-loop-place l = l.slips.items ≡ l.initial.slips.items ++ lists_below (misread_at l.rack l.word) l.place
