use Rattle.std.proofs.Common.{◌-◌}
use Rattle.repair_single.specs.Weighers.{wrong_by}
use Rattle.repair_single.specs.Candidates.{AreBetween}
use Rattle.repair_single.proofs.candidates.candidates_before.Given as goal

abbrev pub invariant-loop-following : goal.invariant-loop-following
invariant-loop-following l = record { so_far : AreBetween (wrong_by l.weigher) l.rules l.list l.events l.plays l.below (l.end - l.following) l.end l.found.items }
