use Rattle.repair_rewrites.specs.Reading.{SameByName}
use Rattle.gcg_read.proofs.AlikeLists.{AreAlikeTo}
use Rattle.repair_rewrites.proofs.comparing.alike_by_name.Given as goal

abbrev pub invariant-loop-place : goal.invariant-loop-place
invariant-loop-place l = record { alike : AreAlikeTo (SameByName l.players l.names) l.events l.others l.place }
