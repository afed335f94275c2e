use Rattle.std.proofs.Common.{◌≡◌}
use Rattle.game_turns.specs.Machines.{rules_of, state_of}
use Rattle.game_turns.specs.Passing.{rules_in, record_in}
use Rattle.game_turns.specs.Tallies.{tally_at}
use Rattle.explain_facts.specs.Wholes.{turns_to, hidden_to, parts_to}
use Rattle.explain_facts.proofs.wholes.turn_lines.Given as goal

abbrev pub invariant-loop-place : goal.invariant-loop-place
invariant-loop-place l =
    record {
      rules : rules_of l.machine ≡ rules_in l.passed;
      state : state_of l.machine ≡ tally_at (rules_in l.passed) (record_in l.passed).events l.place;
      turns : l.lines.turns.items ≡ turns_to (rules_in l.passed) (record_in l.passed).events l.place;
      hidden : l.lines.hidden.items ≡ hidden_to (rules_in l.passed) (record_in l.passed).events l.place;
      parts : l.lines.parts.items ≡ parts_to (rules_in l.passed) (record_in l.passed).events l.place;
    }
