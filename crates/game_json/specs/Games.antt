-- A judged game as an object.
use Rattle.std.specs.Prelude.{ℕ, List, [], ◌∷◌, codes, length, map, Option, Some, None, option_map}
use Rattle.std.specs.List.{range_with_len}
use Rattle.json.specs.Json.{Json, string}
use Rattle.json_trees.specs.Values.{Field, array_of, count, object_of, or_null}
use Rattle.gcg_read.specs.declared.players.Player.{Player}
use Rattle.gcg_unread.specs.declared.lines.UnreadLine.{UnreadLine}
use Rattle.game_answers.specs.declared.answers.EventAnswer.{EventAnswer}
use Rattle.game_answers.specs.declared.leaving.GameAnswers.{GameAnswers}
use Rattle.game_answers.specs.declared.games.JudgedGame.{JudgedGame}
use Rattle.json_base.specs.Values.{given_text, unread_value}
use Rattle.json_base.specs.Verdicts.{ending_value, fault_line_value, fault_value, verdict_word}
use Rattle.game_json.specs.Events.{event_at}

-- a player, with how many points more the best plays of the player's turns would have given in all
abbrev pub player_fields : Player → (remaining : Option ℕ) → List Field
player_fields player remaining =
    (codes "nick", given_text player.nick)
    ∷ (codes "name", given_text player.full)
    ∷ (codes "left", or_null (option_map count remaining))
    ∷ []

abbrev pub player_object : Player → (remaining : Option ℕ) → Json
player_object player remaining = object_of (player_fields player remaining)

abbrev pub remaining_first : Option GameAnswers → Option ℕ
remaining_first None = None
remaining_first (Some answers) = answers.remaining_first

abbrev pub remaining_second : Option GameAnswers → Option ℕ
remaining_second None = None
remaining_second (Some answers) = answers.remaining_second

-- what is answered for the events, in their order
abbrev pub answers_in : Option GameAnswers → List EventAnswer
answers_in None = []
answers_in (Some answers) = answers.events.items

-- the events, each with what is answered for it
abbrev pub events_in : JudgedGame → List Json
events_in game = map (event_at game.players game.events (answers_in game.answers)) (range_with_len 0 (length game.events))

-- the verdict, the players, each event as it is written with what is answered for it, and the lines that are not read
abbrev pub judged_fields : JudgedGame → List UnreadLine → List Field
judged_fields game unread =
    (codes "verdict", string (verdict_word game.verdict))
    ∷ (codes "line", fault_line_value game.verdict)
    ∷ (codes "fault", fault_value game.verdict)
    ∷ (codes "ending", ending_value game.verdict)
    ∷ (codes "players", array_of (player_object game.players.first (remaining_first game.answers) ∷ player_object game.players.second (remaining_second game.answers) ∷ []))
    ∷ (codes "events", array_of (events_in game))
    ∷ (codes "unread_lines", unread_value unread)
    ∷ []

abbrev pub judged_object : JudgedGame → List UnreadLine → Json
judged_object game unread = object_of (judged_fields game unread)
