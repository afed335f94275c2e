-- The best plays before a line of a record, as a value.
use Rattle.std.specs.Prelude.{◌≡◌, ℕ, List, Option, Some, None, Result, Ok, Err, slice_get}
use Rattle.ref_tiles.specs.declared.rulebook.Rules.{Rules}
use Rattle.gcg_read.specs.declared.events.Event.{Event}
use Rattle.gcg_read.specs.declared.records.Record.{Record}
use Rattle.gcg_read.specs.Records.{record_of}
use Rattle.game_turns.specs.Places.{AreAllowedTo, IsRefusedBefore}
use Rattle.game_turns.specs.Tallies.{tally_at}
use Rattle.engine_stages.specs.declared.decisions.Decision.{Decision}
use Rattle.engine_stages.specs.declared.verdicts.GameFault.TheVariants as game
use Rattle.engine_stages.specs.declared.verdicts.Verdict.{Verdict}
use Rattle.engine_stages.specs.declared.verdicts.Verdict.TheVariants as verdict
use Rattle.engine_stages.specs.Reports.{bad_rack_line, bad_line_line, illegal_line}
use Rattle.engine_stages.specs.Stages.{IsRecordOf}
use Rattle.engine.specs.Boards.{place_asked}
use Rattle.engine.specs.TopBefore.{rack_asked, IsToppedBefore}
use Rattle.game_answers.specs.declared.tops.FoundPlays.{FoundPlays}
use Rattle.game_answers.specs.declared.tops.FoundPlays.TheVariants as found
use Rattle.game_answers.specs.Plays.{AreBestPlays, plays_text}

-- the verdict that goes with it
abbrev pub verdict_of : FoundPlays → Verdict
verdict_of (found.Plays rack plays) = verdict.Done
verdict_of (found.Refused line why) = verdict.Illegal line (game.Rule why)
verdict_of found.NoRack = verdict.BadRack
verdict_of found.NoLine = verdict.BadLine

-- the report that is written only from it
abbrev pub plays_report : FoundPlays → List ℕ
plays_report (found.Plays rack plays) = plays_text plays.items
plays_report (found.Refused line why) = illegal_line line (game.Rule why)
plays_report found.NoRack = bad_rack_line
plays_report found.NoLine = bad_line_line

-- What is found before a place by the rack of the question, if there is one: the best plays by it, if the rules allow each event before
-- the place; otherwise the first event that they do not allow.
abbrev pub AreFoundBy : (number : ℕ) → Rules → (list : List (List ℕ)) → List Event → (place : ℕ) → (rack : Option (List ℕ)) → FoundPlays → Type 0
AreFoundBy number rules list events place rack (found.Plays own plays) =
    (rack ≡ Some own) × AreAllowedTo rules list events place × AreBestPlays number rules list (tally_at rules events place).board own plays.items
AreFoundBy number rules list events place rack (found.Refused line why) = (own : List ℕ) × (rack ≡ Some own) × IsRefusedBefore rules list events place line why
AreFoundBy number rules list events place rack found.NoRack = rack ≡ None
AreFoundBy number rules list events place rack found.NoLine = ⊥

-- the same for the place of the question, if there is one
abbrev pub AreFoundAt : (number : ℕ) → Rules → (list : List (List ℕ)) → (given : Option (List ℕ)) → List Event → (place : Option ℕ) → FoundPlays → Type 0
AreFoundAt number rules list given events None x = x ≡ found.NoLine
AreFoundAt number rules list given events (Some place) x = AreFoundBy number rules list events place (rack_asked given (slice_get events place)) x

-- What is found before a line of a record by the rack that is given, or by the one that the line shows: its report is the one that `top`
-- writes.
pub record AreTopPlays (number : ℕ) (before : Option ℕ) (rules : Rules) (list : List (List ℕ)) (given : Option (List ℕ)) (r : Record) (x : FoundPlays) : Type 0 where
  pub plays : AreFoundAt number rules list given r.events (place_asked r.events before) x
  pub reported : IsToppedBefore number before rules list given r (verdict_of x) (plays_report x)

-- the same for the record that a text means, or the verdict that it means none
abbrev pub AreTopPlaysOf : (number : ℕ) → (before : Option ℕ) → Rules → (list : List (List ℕ)) → (given : Option (List ℕ)) → (text : List ℕ) → Result FoundPlays Decision → Type 0
AreTopPlaysOf number before rules list given text (Ok x) = (r : Record) × (record_of text ≡ Ok r) × AreTopPlays number before rules list given r x
AreTopPlaysOf number before rules list given text (Err d) = IsRecordOf text (Err d)
