use Rattle.std.proofs.Common.{◌≡◌}
use Rattle.game_turns.specs.Machines.{rules_of, state_of}
use Rattle.game_turns.specs.Tallies.{tally_at}
use Rattle.compare_repaired.proofs.best.is_finished.Given as goal

abbrev pub invariant-loop-place : goal.invariant-loop-place
invariant-loop-place l =
    record {
      by : rules_of l.machine ≡ l.rules;
      state : state_of l.machine ≡ tally_at l.rules l.right l.place;
    }
