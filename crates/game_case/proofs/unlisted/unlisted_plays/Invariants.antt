use Rattle.std.proofs.Common.{◌≡◌, ◌≤◌}
use Rattle.game_turns.specs.Passing.{rules_in, record_in, list_in}
use Rattle.game_case.specs.Archiving.{unlisted_to}
use Rattle.game_case.proofs.unlisted.unlisted_plays.Given as goal

abbrev pub invariant-loop-place : goal.invariant-loop-place
invariant-loop-place l =
    record {
      plays : l.plays ≡ unlisted_to (rules_in l.passed) (list_in l.passed) (record_in l.passed).events l.place;
      few : l.plays ≤ l.place;
    }
