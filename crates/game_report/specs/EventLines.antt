-- The lines of the events of a legal game.
use Rattle.std.specs.Prelude.{◌≡◌, ℕ, ◌+◌, ◌<◌, List, [], ◌∷◌, ◌++◌, length, slice_get, slice_index_or, Option, Some, None, codes, decimal, if◌then◌else◌}
use Rattle.std.specs.List.{list_all, flat_map}
use Rattle.ref_tiles.specs.declared.rulebook.Rules.{Rules}
use Rattle.gcg_read.specs.declared.events.Event.{Event}
use Rattle.gcg_read.specs.declared.players.Players.{Players}
use Rattle.gcg_read.specs.declared.records.Record.{Record}
use Rattle.gcg_read.specs.Players.{player_of}
use Rattle.gcg_write.specs.Normal.{event_text_of}
use Rattle.lex_list.specs.Words.{is_listed}
use Rattle.game_turns.specs.LatestEvents.{standing_words}
use Rattle.game_turns.specs.Tallies.{tally_at}
use Rattle.game_report.specs.BestPlays.{ReportsBestAt}

-- a word after a space, if it is not in the list
abbrev pub unlisted_word : (list : List (List ℕ)) → List ℕ → List ℕ
unlisted_word list word = if is_listed list word then [] else 32 ∷ word

-- ' unlisted' and the words that are not in the list, each after a space; nothing if all are in it
unfoldable pub unlisted_text : (list : List (List ℕ)) → List (List ℕ) → List ℕ
unlisted_text list words = if list_all (is_listed list) words then [] else codes " unlisted" ++ flat_map (unlisted_word list) words

abbrev pub line_with : Players → Option Event → (reported : List ℕ) → List ℕ
line_with players None reported = []
line_with players (Some event) reported =
    decimal event.line ++ 32 ∷ (player_of players event.player).nick ++ 32 ∷ event_text_of event ++ reported ++ 10 ∷ []

-- N NICK EVENT SCORE TOTAL, what is said of the best play, and for a play that stands its words that are not in the list:
-- the line of the event at a place, counted from 0, N its line in the record
unfoldable pub event_line : Rules → (list : List (List ℕ)) → Record → ℕ → (best : List ℕ) → List ℕ
event_line rules list r place best =
    line_with r.players (slice_get r.events place) (best ++ unlisted_text list (standing_words (tally_at rules r.events (place + 1)).latest))

-- that line, with what it says of the best play
pub record IsEventLine (rules : Rules) (list : List (List ℕ)) (r : Record) (place : ℕ) (line : List ℕ) : Type 0 where
  pub best : List ℕ
  pub reports : ReportsBestAt rules list r.events place best
  pub is : line ≡ event_line rules list r place best

-- the lines of events from a place on, one for each text about a best play
abbrev pub lines_from : Rules → (list : List (List ℕ)) → Record → ℕ → (best : List (List ℕ)) → List ℕ
lines_from rules list r place [] = []
lines_from rules list r place (reported ∷ best) = event_line rules list r place reported ++ lines_from rules list r (place + 1) best

-- The lines of the first events of a record, with what each says of the best play.
pub record AreEventLines (rules : Rules) (list : List (List ℕ)) (r : Record) (many : ℕ) (lines : List ℕ) : Type 0 where
  pub best : List (List ℕ)
  pub count : length best ≡ many
  pub each : (place : ℕ) → place < many → ReportsBestAt rules list r.events place (slice_index_or best place [])
  pub are : lines ≡ lines_from rules list r 0 best
