-- The normal form of a record: its lines, each ended by an LF.
use Rattle.std.specs.Prelude.{ℕ, List, [], ◌∷◌, ◌++◌, ◌==◌, length, map, codes, Option, Some, None, if◌then◌else◌}
use Rattle.std.specs.List.{flat_map}
use Rattle.gcg_read.specs.declared.events.Event.{Event}
use Rattle.gcg_read.specs.declared.players.Player.{Player}
use Rattle.gcg_read.specs.declared.players.Players.{Players}
use Rattle.gcg_read.specs.declared.records.Record.{Record}
use Rattle.gcg_read.specs.Players.{is_unnamed, player_of}
use Rattle.gcg_write.specs.Fields.{kind_text, points_text, tiles_text}

-- EVENT SCORE TOTAL
unfoldable pub event_text_of : Event → List ℕ
event_text_of event = kind_text event.kind ++ 32 ∷ points_text event.score event.total

-- a stated rack and the blank after it
abbrev pub rack_text : Option (List ℕ) → List ℕ
rack_text None = []
rack_text (Some rack) = tiles_text rack ++ 32 ∷ []

-- '>' (62), the nickname of the player, and a colon (58) with a blank after it
abbrev pub head_text : Players → Event → List ℕ
head_text players event = 62 ∷ (player_of players event.player).nick ++ 58 ∷ 32 ∷ []

-- >NICK: RACK EVENT SCORE TOTAL
unfoldable pub event_line : Players → Event → List ℕ
event_line players event = head_text players event ++ rack_text event.rack ++ event_text_of event

-- the lines of events, each ended by an LF
abbrev pub events_text : Players → List Event → List ℕ
events_text players events = flat_map (λ event. event_line players event ++ 10 ∷ []) events

-- a blank and the full name; nothing if the full name is empty
abbrev pub full_text : List ℕ → List ℕ
full_text full = if length full == 0 then [] else 32 ∷ full

-- the line of a player, for example '#player1 NICK FULL'; none for one without a nickname
unfoldable pub player_lines : List ℕ → Player → List (List ℕ)
player_lines pragma player = if is_unnamed player then [] else (pragma ++ player.nick ++ full_text player.full) ∷ []

-- the lines of a record: those of its players, and one for each event
abbrev pub normal_lines : Record → List (List ℕ)
normal_lines r =
    player_lines (codes "#player1 ") r.players.first ++ player_lines (codes "#player2 ") r.players.second
    ++ map (event_line r.players) r.events

-- lines, each ended by an LF
abbrev pub text_of_lines : List (List ℕ) → List ℕ
text_of_lines lines = flat_map (λ line. line ++ 10 ∷ []) lines

-- the normal form of a record
unfoldable pub normal_of : Record → List ℕ
normal_of r = text_of_lines (normal_lines r)
