use Rattle.std.proofs.Common.{◌≡◌, take}
use Rattle.game_deal.specs.Bounded.{steps_in}
use Rattle.game_deal.specs.Walking.{IsAtPlace}
use Rattle.game_deal.proofs.steps.all_steps.Given as goal

abbrev pub invariant-loop-place : goal.invariant-loop-place
invariant-loop-place l =
    record {
      before : IsAtPlace l.passed l.place l.machine;
      steps : l.steps.items ≡ take l.place (steps_in l.passed);
    }
