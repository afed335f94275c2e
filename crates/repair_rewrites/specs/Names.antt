-- Players who have nicknames.
use Rattle.std.specs.Prelude.{◌≤◌, List, length, All}
use Rattle.gcg_read.specs.declared.events.Event.{Event}
use Rattle.gcg_read.specs.declared.players.Players.{Players}
use Rattle.gcg_read.specs.Players.{player_of}

-- each event is by a player who has a nickname
abbrev pub AreNamed : Players → List Event → Type 0
AreNamed players events = All (λ (e : Event). 1 ≤ length (player_of players e.player).nick) events
