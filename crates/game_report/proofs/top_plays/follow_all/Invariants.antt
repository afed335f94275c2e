use Rattle.game_turns.specs.Passing.{rules_in, record_in}
use Rattle.lex_check.specs.Pairs.{list_in}
use Rattle.game_report.specs.Beside.{StandAt}
use Rattle.game_report.proofs.top_plays.follow_all.Given as goal

abbrev pub invariant-loop-place : goal.invariant-loop-place
invariant-loop-place l =
    record { stand : StandAt (rules_in l.passed) (list_in l.pair) (record_in l.passed).events l.place l.machine l.follow }
