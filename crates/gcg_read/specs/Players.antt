-- The two players, and how nicknames are given to them.
use Rattle.std.specs.Prelude.{ℕ, Bool, true, false, ◌==◌, List, [], length, Option, Some, None, if◌then◌else◌}
use Rattle.std.specs.Str.{bytes_eq}
use Rattle.gcg_read.specs.declared.players.Player.{Player}
use Rattle.gcg_read.specs.declared.players.Players.{Players}
use Rattle.gcg_read.specs.declared.events.Seat.{Seat}
use Rattle.gcg_read.specs.declared.events.Seat.TheVariants.{First, Second}

-- a player without names
abbrev pub no_player : Player
no_player = record { nick = []; full = [] }

-- two players without names
abbrev pub no_players : Players
no_players = record { first = no_player; second = no_player }

-- the player in a seat
abbrev pub player_of : Players → Seat → Player
player_of players First = players.first
player_of players Second = players.second

-- the other seat
abbrev pub other_seat : Seat → Seat
other_seat First = Second
other_seat Second = First

-- whether both seats are the same
abbrev pub same_seat : Seat → Seat → Bool
same_seat First First = true
same_seat First Second = false
same_seat Second First = false
same_seat Second Second = true

-- the players with this one in a seat
abbrev pub with_player : Players → Seat → Player → Players
with_player players First player = record players { first = player }
with_player players Second player = record players { second = player }

-- whether the player has no nickname yet
abbrev pub is_unnamed : Player → Bool
is_unnamed player = length player.nick == 0

-- The seat of a nickname: of the player who has it, or else of the first player who has none.
abbrev pub seat_for : Players → List ℕ → Option Seat
seat_for players nick =
    if bytes_eq players.first.nick nick then Some First
    else (if bytes_eq players.second.nick nick then Some Second
    else (if is_unnamed players.first then Some First
    else (if is_unnamed players.second then Some Second else None)))

-- the player with this nickname, if there is none yet
abbrev pub with_nick : Player → List ℕ → Player
with_nick player nick = if is_unnamed player then record player { nick = nick } else player

-- the players with this nickname in a seat, if there is none yet
abbrev pub seated : Players → Seat → List ℕ → Players
seated players First nick = record players { first = with_nick players.first nick }
seated players Second nick = record players { second = with_nick players.second nick }
