use Rattle.std.proofs.Common.{◌↔◌}
use Rattle.game_turns.specs.Passing.{rules_in}
use Rattle.deal_steps.proofs.FitLaws.{FitsFrom}
use Rattle.game_deal.specs.Bounded.{steps_in, FitsRecord}
use Rattle.game_deal.specs.Walking.{IsAtPlace}
use Rattle.game_deal.proofs.fitting.fits.Given as goal

abbrev pub invariant-loop-place : goal.invariant-loop-place
invariant-loop-place l =
    record {
      before : IsAtPlace l.passed l.place l.machine;
      rest : FitsRecord l.passed l.deal ↔ FitsFrom (rules_in l.passed) (steps_in l.passed) l.deal l.place;
    }
