use Rattle.repair_rewrites.specs.Reading.{SameBySeat}
use Rattle.gcg_read.proofs.AlikeLists.{AreAlikeTo}
use Rattle.repair_rewrites.proofs.comparing.alike_by_seat.Given as goal

abbrev pub invariant-loop-place : goal.invariant-loop-place
invariant-loop-place l = record { alike : AreAlikeTo SameBySeat l.events l.others l.place }
