-- The events of a judged game as objects, each with what is answered for it, if that is known.
use Rattle.std.specs.Prelude.{ℕ, List, [], ◌∷◌, codes, map, slice_get, Option, Some, None, option_map}
use Rattle.json.specs.Json.{Json, null, string}
use Rattle.json_trees.specs.Values.{Field, array_of, count, integer, object_of, or_null, text}
use Rattle.gcg_read.specs.declared.events.Event.{Event}
use Rattle.gcg_read.specs.declared.events.EventKind.{EventKind}
use Rattle.gcg_read.specs.declared.players.Players.{Players}
use Rattle.gcg_read.specs.Players.{player_of}
use Rattle.ref_play.specs.declared.plays.Play.{Play}
use Rattle.game_bests.specs.declared.bests.TurnBest.{TurnBest}
use Rattle.game_bests.specs.declared.bests.TurnBest.TheVariants as best
use Rattle.game_turns.specs.declared.unlisted.SpelledWord.{SpelledWord}
use Rattle.game_answers.specs.declared.answers.EventAnswer.{EventAnswer}
use Rattle.json_base.specs.Kinds.{kind_direction, kind_number, kind_place, kind_symbols, kind_tiles}
use Rattle.json_base.specs.Values.{given_text, rack_value}
use Rattle.json_base.specs.Words.{kind_word, player_number}
use Rattle.game_json.specs.Plays.{best_object, placed_value}

-- of a play the whole word, with the letters that it plays through
abbrev pub word_in : Option EventAnswer → Json
word_in None = null
word_in (Some answer) = given_text answer.word.items

-- the tiles that a play put down or a withdrawal took back; otherwise those that the event names
abbrev pub played_or : (otherwise : Json) → Option Play → Json
played_or otherwise None = otherwise
played_or otherwise (Some play) = placed_value play.tiles.items

abbrev pub tiles_in : EventKind → Option EventAnswer → Json
tiles_in kind None = kind_tiles kind
tiles_in kind (Some answer) = played_or (kind_tiles kind) answer.play

-- what is said of the best play of the turn
abbrev pub turn_word : TurnBest → List ℕ
turn_word best.NoTurn = codes "none"
turn_word best.NotShown = codes "rack not shown"
turn_word best.NoPlay = codes "no play"
turn_word (best.Best play) = codes "best play"

abbrev pub turn_in : Option EventAnswer → Json
turn_in None = null
turn_in (Some answer) = string (turn_word answer.best)

-- the best play, if there is one
abbrev pub best_value : TurnBest → Json
best_value best.NoTurn = null
best_value best.NotShown = null
best_value best.NoPlay = null
best_value (best.Best play) = best_object play

abbrev pub best_in : Option EventAnswer → Json
best_in None = null
best_in (Some answer) = best_value answer.best

-- the words of a play that stands which are not in the list
abbrev pub spelled_value : SpelledWord → Json
spelled_value word = text word.letters.items

abbrev pub unlisted_in : Option EventAnswer → Json
unlisted_in None = null
unlisted_in (Some answer) = array_of (map spelled_value answer.unlisted.items)

-- an event
abbrev pub event_fields : Players → Event → Option EventAnswer → List Field
event_fields players event answer =
    (codes "line", count event.line)
    ∷ (codes "player", count (player_number event.player))
    ∷ (codes "nick", text (player_of players event.player).nick)
    ∷ (codes "rack", rack_value event.rack)
    ∷ (codes "kind", string (kind_word event.kind))
    ∷ (codes "place", kind_place event.kind)
    ∷ (codes "direction", kind_direction event.kind)
    ∷ (codes "text", kind_symbols event.kind)
    ∷ (codes "word", word_in answer)
    ∷ (codes "tiles", tiles_in event.kind answer)
    ∷ (codes "number", kind_number event.kind)
    ∷ (codes "score", integer event.score)
    ∷ (codes "total", integer event.total)
    ∷ (codes "turn", turn_in answer)
    ∷ (codes "best", best_in answer)
    ∷ (codes "unlisted", unlisted_in answer)
    ∷ []

abbrev pub event_object : Players → Event → Option EventAnswer → Json
event_object players event answer = object_of (event_fields players event answer)

-- the event at a place, with the answer at that place
unfoldable pub event_at : Players → List Event → List EventAnswer → (place : ℕ) → Json
event_at players events answers place = or_null (option_map (λ event. event_object players event (slice_get answers place)) (slice_get events place))
