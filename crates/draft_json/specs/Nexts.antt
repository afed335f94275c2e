-- What the next line of a draft is about, as an object.
use Rattle.std.specs.Prelude.{ℕ, List, [], ◌∷◌, codes, Option, Some, None}
use Rattle.json.specs.Json.{Json, boolean, null, string}
use Rattle.json_trees.specs.Values.{Field, array_of, count, integer, object_of}
use Rattle.engine_stages.specs.declared.verdicts.GameFault.TheVariants as game
use Rattle.game_walk.specs.declared.refusals.Refusal.{Refusal}
use Rattle.gcg_read.specs.declared.events.Seat.{Seat}
use Rattle.gcg_read.specs.declared.players.Player.{Player}
use Rattle.draft_answers.specs.declared.next.DraftNext.{DraftNext}
use Rattle.draft_answers.specs.declared.next.NextSide.{NextSide}
use Rattle.json_base.specs.Faults.{game_fault_object}
use Rattle.json_base.specs.Values.{given_text}
use Rattle.json_base.specs.Words.{player_number}

-- whether the rules refuse a line with any numbers, and that line with its fault
abbrev pub stopped_word : Option Refusal → List ℕ
stopped_word None = codes "ok"
stopped_word (Some refusal) = codes "illegal"

abbrev pub stopped_line : Option Refusal → Json
stopped_line None = null
stopped_line (Some refusal) = count refusal.line

abbrev pub stopped_fault : Option Refusal → Json
stopped_fault None = null
stopped_fault (Some refusal) = game_fault_object (game.Rule refusal.why)

-- a player by the number, or null if it is none of the two
abbrev pub seat_value : Option Seat → Json
seat_value None = null
seat_value (Some player) = count (player_number player)

-- a player with the total so far and the number of tiles on the rack
abbrev pub side_fields : Player → NextSide → List Field
side_fields player side =
    (codes "nick", given_text player.nick)
    ∷ (codes "name", given_text player.full)
    ∷ (codes "total", integer side.total)
    ∷ (codes "tiles", count side.rack)
    ∷ []

abbrev pub side_object : Player → NextSide → Json
side_object player side = object_of (side_fields player side)

abbrev pub sides_value : DraftNext → Json
sides_value draft =
    array_of (side_object draft.record.players.first draft.next.first ∷ side_object draft.record.players.second draft.next.second ∷ [])

-- whether the game is complete, whose turn it is, who is out, what the players have, and how many tiles are in the bag
abbrev pub next_fields : DraftNext → List Field
next_fields draft =
    (codes "verdict", string (stopped_word draft.stopped))
    ∷ (codes "line", stopped_line draft.stopped)
    ∷ (codes "fault", stopped_fault draft.stopped)
    ∷ (codes "complete", boolean draft.next.complete)
    ∷ (codes "turn", seat_value draft.next.turn)
    ∷ (codes "out", seat_value draft.next.out)
    ∷ (codes "players", sides_value draft)
    ∷ (codes "bag", count draft.next.bag)
    ∷ []

abbrev pub next_object : DraftNext → Json
next_object draft = object_of (next_fields draft)
