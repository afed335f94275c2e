use Rattle.std.proofs.Common.{◌≡◌, map}
use Rattle.game_turns.specs.Machines.{rules_of, state_of}
use Rattle.game_turns.specs.Passing.{rules_in, record_in, list_in}
use Rattle.game_turns.specs.Tallies.{tally_at}
use Rattle.explain_facts.specs.Wholes.{play_in, unlisted_to}
use Rattle.explain_facts.proofs.wholes.unlisted_plays.Given as goal

abbrev pub invariant-loop-place : goal.invariant-loop-place
invariant-loop-place l =
    record {
      rules : rules_of l.machine ≡ rules_in l.passed;
      state : state_of l.machine ≡ tally_at (rules_in l.passed) (record_in l.passed).events l.place;
      plays : map play_in l.plays.items ≡ unlisted_to (rules_in l.passed) (list_in l.passed) (record_in l.passed).events l.place;
    }
