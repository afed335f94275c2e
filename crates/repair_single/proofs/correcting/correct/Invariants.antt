use Rattle.repair_single.proofs.Trials.{GoesTo}
use Rattle.repair_single.proofs.correcting.correct.Given as goal

abbrev pub invariant-loop-place : goal.invariant-loop-place
invariant-loop-place l = GoesTo l.rules l.list l.initial.events l.events 0 l.place l.machine
