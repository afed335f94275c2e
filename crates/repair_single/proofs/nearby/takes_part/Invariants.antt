use Rattle.game_turns.specs.Machines.{rules_of}
use Rattle.repair_single.proofs.Neighbours.{GoAnywhere}
use Rattle.repair_single.proofs.nearby.takes_part.Given as goal

abbrev pub invariant-loop-place : goal.invariant-loop-place
invariant-loop-place l =
    record {
      anywhere : GoAnywhere (rules_of l.initial.machine) l.list l.initial.near l.near l.initial.machine l.place l.machine l.first.steps.items;
    }
