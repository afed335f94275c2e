use Rattle.std.proofs.Common.{ℕ, List}
use Rattle.ref_tiles.specs.declared.rulebook.Rules.{Rules}
use Rattle.game_walk.specs.Walks.{IsWalkOf}
use Rattle.repair_single.specs.FirstSteps.{AreFirstSteps}
use Rattle.repair_single.proofs.rack_stops.walked_steps.Given as goal

abbrev pub invariant-loop-place : goal.invariant-loop-place
invariant-loop-place l =
    record { so_far : (rules : Rules) (list : List (List ℕ)) → IsWalkOf rules list l.events l.walk → AreFirstSteps rules list l.events l.first.steps.items }
