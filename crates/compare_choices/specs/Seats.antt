-- Two sheets of which each has its own player first.
use Rattle.std.specs.Prelude.{ℕ, ◌==◌, ◌&&◌, ◌||◌, not, Bool, List, length, map, if◌then◌else◌}
use Rattle.std.specs.Str.{bytes_eq}
use Rattle.gcg_read.specs.declared.players.Player.{Player}
use Rattle.gcg_read.specs.declared.players.Players.{Players}
use Rattle.gcg_read.specs.declared.records.Record.{Record}
use Rattle.compare_alignments.specs.Seats.{in_other_seat}

-- a name that both have
abbrev pub same_name : (name other : List ℕ) → Bool
same_name name other = not (length name == 0) && bytes_eq name other

-- players with one nickname, or one full name
abbrev pub same_player : Player → Player → Bool
same_player player other = same_name player.nick other.nick || same_name player.full other.full

-- a player of one sheet has a name of the other player of the other sheet, and none has one of the same
abbrev pub are_exchanged : Players → Players → Bool
are_exchanged players others =
    (same_player players.first others.second || same_player players.second others.first)
    && not (same_player players.first others.first || same_player players.second others.second)

-- a record with its players in the other order
abbrev pub exchanged : Record → Record
exchanged game = record { players = record { first = game.players.second; second = game.players.first }; events = map in_other_seat game.events }

-- The record of a second sheet in the seats of these players: with its own in the other order, if their names say so.
abbrev pub in_seats_of : Players → Record → Record
in_seats_of players second = if are_exchanged players second.players then exchanged second else second
