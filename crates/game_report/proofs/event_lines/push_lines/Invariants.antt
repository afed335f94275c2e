use Rattle.game_turns.specs.Passing.{rules_in, record_in}
use Rattle.lex_check.specs.Pairs.{list_in}
use Rattle.game_notes.specs.Latest.{AreBests}
use Rattle.game_report.specs.BestPlays.{Appends}
use Rattle.game_report.specs.Beside.{StandAt}
use Rattle.game_report.specs.EventLines.{AreEventLines}
use Rattle.game_report.proofs.event_lines.push_lines.Given as goal

abbrev pub invariant-loop-place : goal.invariant-loop-place
invariant-loop-place l =
    record {
      stand : StandAt (rules_in l.passed) (list_in l.pair) (record_in l.passed).events l.place l.machine l.follow;
      latest : AreBests (rules_in l.passed) (list_in l.pair) l.latest;
      lines : Appends (AreEventLines (rules_in l.passed) (list_in l.pair) (record_in l.passed) l.place) l.initial.text.items l.text.items;
    }
