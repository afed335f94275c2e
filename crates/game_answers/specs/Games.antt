-- The judged game of a record, as a value.
use Rattle.std.specs.Prelude.{◌≡◌, ◌⊎◌, ℕ, Bool, true, false, List, [], length, Result, Ok, Err, Option, Some, None}
use Rattle.ref_tiles.specs.declared.rulebook.Rules.{Rules}
use Rattle.gcg_read.specs.declared.events.Event.{Event}
use Rattle.gcg_read.specs.declared.players.Players.{Players}
use Rattle.gcg_read.specs.declared.records.Record.{Record}
use Rattle.gcg_read.specs.Records.{record_of}
use Rattle.game_turns.specs.Places.{AreAllowed}
use Rattle.engine_stages.specs.declared.decisions.Decision.{Decision}
use Rattle.engine_stages.specs.declared.verdicts.Verdict.{Verdict}
use Rattle.engine_stages.specs.Stages.{IsRecordOf}
use Rattle.engine.specs.declared.judging.Judging.{Judging}
use Rattle.engine.specs.Settling.{IsJudgedBy}
use Rattle.game_report.specs.EventLines.{AreEventLines}
use Rattle.game_answers.specs.declared.leaving.GameAnswers.{GameAnswers}
use Rattle.game_answers.specs.declared.games.JudgedGame.{JudgedGame}
use Rattle.game_answers.specs.Answers.{AreAnswersTo}
use Rattle.game_answers.specs.Leaving.{AreRemaining}
use Rattle.game_answers.specs.Reports.{lines_to, report_by}

-- a verdict on a record in which the rules allow every event: whatever lines its events have, `judge` answers it with the report of them
pub record IsVerdictOn (question : Judging) (rules : Rules) (list : List (List ℕ)) (r : Record) (v : Verdict) : Type 0 where
  pub judged : (lines : List ℕ) → AreEventLines rules list r (length r.events) lines → IsJudgedBy question rules list r v (report_by v lines)

-- The verdict on a record: if the rules allow every event, whatever lines the events have; else with a report that has no lines of events.
abbrev pub IsVerdict : (question : Judging) → Rules → (list : List (List ℕ)) → Record → Verdict → Type 0
IsVerdict question rules list r v =
    AreAllowed rules list r.events × IsVerdictOn question rules list r v ⊎ (AreAllowed rules list r.events → ⊥) × IsJudgedBy question rules list r v (report_by v [])

-- What is answered for the events if answers are asked for and the rules allow every event: an answer for each, and how many points both players left.
abbrev pub AreAnswered : (best : Bool) → Rules → (list : List (List ℕ)) → List Event → Option GameAnswers → Type 0
AreAnswered true rules list events (Some a) = AreAllowed rules list events × AreAnswersTo rules list events (length events) a.events.items × AreRemaining events a
AreAnswered true rules list events None = AreAllowed rules list events → ⊥
AreAnswered false rules list events a = a ≡ None

-- the report of a verdict with answers
abbrev pub report_of : Players → List Event → Verdict → Option GameAnswers → List ℕ
report_of players events v None = report_by v []
report_of players events v (Some a) = report_by v (lines_to players events a.events.items (length events))

-- A verdict on a record with what is answered for its events. The verdict is the same whether answers are asked for or not, and with answers the
-- report of both is the one that `judge` writes.
pub record IsJudged (best : Bool) (question : Judging) (rules : Rules) (list : List (List ℕ)) (r : Record) (v : Verdict) (a : Option GameAnswers) : Type 0 where
  pub verdict : IsVerdict question rules list r v
  pub answered : AreAnswered best rules list r.events a
  pub judged : best ≡ true → IsJudgedBy question rules list r v (report_of r.players r.events v a)

-- The judged game of a record: its players and its events, the verdict, and what is answered for the events, if that is asked for.
pub record IsJudgedGame (best : Bool) (question : Judging) (rules : Rules) (list : List (List ℕ)) (r : Record) (g : JudgedGame) : Type 0 where
  pub players : g.players ≡ r.players
  pub events : g.events ≡ r.events
  pub judged : IsJudged best question rules list r g.verdict g.answers

-- the judged game of the record that a text means, or the verdict that it means none
abbrev pub IsJudgedGameOf : (best : Bool) (question : Judging) → Rules → (list : List (List ℕ)) → (text : List ℕ) → Result JudgedGame Decision → Type 0
IsJudgedGameOf best question rules list text (Ok g) = (r : Record) × (record_of text ≡ Ok r) × IsJudgedGame best question rules list r g
IsJudgedGameOf best question rules list text (Err d) = IsRecordOf text (Err d)
