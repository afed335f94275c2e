-- The report of a judged game, as it is written only from its value.
use Rattle.std.specs.Prelude.{ℕ, zero, suc, List, [], ◌∷◌, ◌++◌, codes, decimal, slice_get, Option, Some, None}
use Rattle.std.specs.List.{flat_map}
use Rattle.gcg_read.specs.declared.events.Event.{Event}
use Rattle.gcg_read.specs.declared.players.Players.{Players}
use Rattle.gcg_read.specs.Players.{player_of}
use Rattle.gcg_write.specs.Normal.{event_text_of}
use Rattle.engine_stages.specs.declared.verdicts.Verdict.{Verdict}
use Rattle.engine_stages.specs.declared.verdicts.Verdict.TheVariants as verdict
use Rattle.engine_stages.specs.Reports.{legal_line, illegal_line, unsettled_line}
use Rattle.game_answers.specs.declared.answers.EventAnswer.{EventAnswer}
use Rattle.game_bests.specs.Reportings.{best_reported}
use Rattle.game_turns.specs.Unlisted.{letters_in}

-- the text of the words that are not in the list in a report: ' unlisted' and each after a space, or nothing if there are none
abbrev pub unlisted_reported : List (List ℕ) → List ℕ
unlisted_reported [] = []
unlisted_reported (word ∷ words) = codes " unlisted" ++ flat_map (λ w. 32 ∷ w) (word ∷ words)

-- the line of an event by its answer
abbrev pub line_of : Players → Option Event → Option EventAnswer → List ℕ
line_of players None a = []
line_of players (Some e) None = []
line_of players (Some e) (Some a) =
    decimal e.line ++ 32 ∷ (player_of players e.player).nick ++ 32 ∷ event_text_of e ++ (best_reported a.best ++ unlisted_reported (letters_in a.unlisted.items)) ++ 10 ∷ []

-- the lines of the first events
abbrev pub lines_to : Players → List Event → List EventAnswer → (many : ℕ) → List ℕ
lines_to players events answers zero = []
lines_to players events answers (suc many) = lines_to players events answers many ++ line_of players (slice_get events many) (slice_get answers many)

-- the report of a verdict, once the events of a legal game have these lines
abbrev pub report_by : Verdict → (lines : List ℕ) → List ℕ
report_by (verdict.Legal complete) lines = legal_line complete ++ lines
report_by (verdict.Illegal line fault) lines = illegal_line line fault
report_by verdict.Unsettled lines = unsettled_line
report_by other lines = []
