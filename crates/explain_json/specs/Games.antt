-- Facts about a record as a whole, as objects.
use Rattle.std.specs.Prelude.{ℕ, List, [], ◌∷◌, ◌++◌, codes, length, map, Option, Some, None}
use Rattle.json.specs.Json.{Json}
use Rattle.json_trees.specs.Values.{Field, array_of, count, field_if, object_of}
use Rattle.explain_facts.specs.declared.facts.games.GameFact.{GameFact}
use Rattle.explain_facts.specs.declared.facts.games.GameFact.TheVariants as game
use Rattle.explain_facts.specs.declared.facts.games.RackPart.{RackPart}
use Rattle.explain_facts.specs.declared.facts.games.UnlistedPlay.{UnlistedPlay}
use Rattle.json_base.specs.Words.{player_number}
use Rattle.explain_json.specs.Lines.{parts_value}
use Rattle.explain_json.specs.Parts.{bare, named, numbers_value, words_value}

-- a play that stands with words that are not in the word list
abbrev pub unlisted_object : UnlistedPlay → Json
unlisted_object play = object_of (
    (codes "line", count play.line)
    ∷ (codes "player", count (player_number play.player))
    ∷ (codes "words", words_value play.words.items)
    ∷ [])

abbrev pub plays_object : List UnlistedPlay → Json
plays_object plays = object_of (named (codes "Unlisted") ∷ (codes "plays", array_of (map unlisted_object plays)) ∷ [])

-- the turns of which only a part of the rack is shown, if there are any
abbrev pub parts_if : List RackPart → Option Json
parts_if [] = None
parts_if (part ∷ parts) = Some (parts_value (part ∷ parts))

-- how many turns show no rack, how many turns there are, and the lines
abbrev pub hidden_fields : (lines : List ℕ) → List RackPart → (turns : ℕ) → List Field
hidden_fields lines parts turns =
    ((named (codes "RacksHidden")
    ∷ (codes "number", count (length lines))
    ∷ (codes "limit", count turns)
    ∷ []) ++ field_if (codes "lines") (parts_if parts)) ++ (codes "on_lines", numbers_value lines) ∷ []

abbrev pub hidden_object : (lines : List ℕ) → List RackPart → (turns : ℕ) → Json
hidden_object lines parts turns = object_of (hidden_fields lines parts turns)

abbrev pub game_object : GameFact → Json
game_object game.NoEvent = bare (codes "NoEvent")
game_object game.Legal = bare (codes "Legal")
game_object game.Unsettled = bare (codes "Unsettled")
game_object (game.Unlisted plays) = plays_object plays.items
game_object game.OtherList = bare (codes "OtherList")
game_object (game.RacksHidden lines parts turns) = hidden_object lines.items parts.items turns
