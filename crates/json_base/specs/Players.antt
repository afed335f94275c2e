-- Players, and who of them is ahead, as objects.
use Rattle.std.specs.Prelude.{ℤ, pos, List, [], ◌∷◌, codes}
use Rattle.json.specs.Json.{Json, null}
use Rattle.json_trees.specs.Values.{Field, array_of, count, integer, object_of}
use Rattle.game_corrections.specs.declared.standings.Standing.{Standing}
use Rattle.game_corrections.specs.declared.standings.Standing.TheVariants as standing
use Rattle.gcg_read.specs.declared.players.Player.{Player}
use Rattle.gcg_read.specs.declared.players.Players.{Players}
use Rattle.json_base.specs.Values.{given_text}
use Rattle.json_base.specs.Words.{player_number}

-- the nickname of a player, and the full name
abbrev pub player_fields : Player → List Field
player_fields player =
    (codes "nick", given_text player.nick)
    ∷ (codes "name", given_text player.full)
    ∷ []

abbrev pub player_object : Player → Json
player_object player = object_of (player_fields player)

abbrev pub players_value : Players → Json
players_value players = array_of (player_object players.first ∷ player_object players.second ∷ [])

-- who is ahead and by how many points: no player if both have the same
abbrev pub ahead_fields : (player : Json) → (by : ℤ) → List Field
ahead_fields player by = (codes "player", player) ∷ (codes "by", integer by) ∷ []

abbrev pub standing_object : Standing → Json
standing_object standing.Even = object_of (ahead_fields null (pos 0))
standing_object (standing.Ahead player by) = object_of (ahead_fields (count (player_number player)) by)
