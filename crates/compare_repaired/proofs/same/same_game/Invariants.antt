use Rattle.compare_repaired.specs.Same.{SameLine}
use Rattle.gcg_read.proofs.AlikeLists.{AreAlikeTo}
use Rattle.compare_repaired.proofs.same.same_game.Given as goal

abbrev pub invariant-loop-place : goal.invariant-loop-place
invariant-loop-place l = record { alike : AreAlikeTo SameLine l.events l.others l.place }
