-- How the program ends after a case is explained.
use Rattle.std.specs.Prelude.{ℕ, List, Result, Ok, Err, Option, Some, None}
use Rattle.gcg_read.specs.declared.events.Event.{Event}
use Rattle.gcg_read.specs.declared.faults.ReadFault.{ReadFault}
use Rattle.game_board.specs.Places.{place_of_line}
use Rattle.game_exits.specs.declared.exits.Exit.{Exit}
use Rattle.game_exits.specs.declared.exits.Exit.TheVariants as exit
use Rattle.game_exits.specs.Audits.{exit_of_finding}
use Rattle.game_case.specs.declared.entries.Entry.{Entry}

-- whether there is an event to be explained, if a line is named
abbrev pub exit_by : (verdict place : Exit) → Option ℕ → Exit
exit_by by_verdict by_place None = by_place
exit_by by_verdict by_place (Some place) = by_verdict

-- the exit of a line that is named in a record: that of its verdict, unless every event is before the line
abbrev pub exit_on : (verdict : Exit) → List Event → (line : Option ℕ) → Exit
exit_on verdict events None = verdict
exit_on verdict events (Some line) = exit_by verdict exit.BadInput (place_of_line events line)

-- the exit after a case is explained, or one of its lines
abbrev pub explain_exit : Result Entry ReadFault → (line : Option ℕ) → Exit
explain_exit (Ok entry) line = exit_on (exit_of_finding entry.finding) entry.record.events line
explain_exit (Err fault) line = exit.BadInput
