use Rattle.repair_single.specs.Repairs.{SameEvent}
use Rattle.gcg_read.proofs.AlikeLists.{AreAlikeTo}
use Rattle.repair_single.proofs.comparing.same_record.Given as goal

abbrev pub invariant-loop-place : goal.invariant-loop-place
invariant-loop-place l = record { alike : AreAlikeTo SameEvent l.events l.others l.place }
