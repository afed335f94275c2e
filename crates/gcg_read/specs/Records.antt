-- The record of a text: what each of its lines adds, and the first fault.
use Rattle.std.specs.Prelude.{◌≡◌, ℕ, ◌+◌, ◌==◌, nat_lt, nat_le, List, [], ◌∷◌, ◌++◌, length, not, Option, Some, None, Result, Ok, Err, if◌then◌else◌}
use Rattle.std.specs.Option.{ok_or}
use Rattle.std.specs.Str.{bytes_eq}
use Rattle.gcg_read.specs.declared.faults.Why.{Why}
use Rattle.gcg_read.specs.declared.faults.Why.TheVariants as why
use Rattle.gcg_read.specs.declared.faults.ReadFault.{ReadFault}
use Rattle.gcg_read.specs.declared.events.Event.{Event}
use Rattle.gcg_read.specs.declared.players.Players.{Players}
use Rattle.gcg_read.specs.declared.records.Record.{Record}
use Rattle.gcg_read.specs.declared.reading.Entry.{Entry}
use Rattle.gcg_read.specs.Faults.{◌>>=◌, on_line}
use Rattle.gcg_read.specs.Cutting.{lines_of, fields_of, head_of}
use Rattle.gcg_read.specs.Players.{no_players, player_of, other_seat, with_player, is_unnamed, seat_for, seated}
use Rattle.gcg_read.specs.Pragmas.{Naming, naming_of}
use Rattle.gcg_read.specs.EventLines.{event_of}

-- the most bytes of a text: 1 MiB
abbrev pub most_bytes : ℕ
most_bytes = 1048576

-- the most events of a record
abbrev pub most_events : ℕ
most_events = 1000

-- a record without names and events
abbrev pub no_record : Record
no_record = record { players = no_players; events = [] }

-- an event and the nickname of its player
pub record NamedEvent : Type 0 where
  pub nick : List ℕ
  pub event : Event

-- The event of a line, after its '>': the record has fewer than `most_events` events, a nickname comes before the first colon and
-- is that of one of two players, and the fields after it say the event.
unfoldable pub entry_of : Record → ℕ → List ℕ → Result NamedEvent Why
entry_of so_far line text =
    if nat_le most_events (length so_far.events) then Err why.TooManyEvents
    else (do
      head ← ok_or (head_of text) why.NoColon
      player ← ok_or (seat_for so_far.players head.nick) why.ThirdPlayer
      event ← event_of (record { line = line; player = player }) (fields_of head.after)
      Ok (record { nick = head.nick; event = event }))

-- the record with the event of one more line, after its '>'
unfoldable pub with_event : Record → ℕ → List ℕ → Result Record ReadFault
with_event so_far line text = do
  entry ← on_line line (entry_of so_far line text)
  Ok (record { players = seated so_far.players entry.event.player entry.nick; events = so_far.events ++ entry.event ∷ [] })

-- The players with the names of a pragma: a player who has names keeps them, and the nickname of a player is not that of the other.
unfoldable pub players_with : Players → Naming → Result Players Why
players_with players naming =
    if not (is_unnamed (player_of players naming.seat)) then Ok players
    else (if bytes_eq (player_of players (other_seat naming.seat)).nick naming.nick then Err why.ThirdPlayer
    else Ok (with_player players naming.seat (record { nick = naming.nick; full = naming.full })))

-- the record with the names of a pragma, if it gives some
abbrev pub with_naming : Record → ℕ → Option Naming → Result Record ReadFault
with_naming so_far line None = Ok so_far
with_naming so_far line (Some naming) = do
  players ← on_line line (players_with so_far.players naming)
  Ok (record so_far { players = players })

-- The record with the pragma of one more line, after its '#'. Names count before the first event only.
unfoldable pub with_pragma : Record → ℕ → List ℕ → Result Record ReadFault
with_pragma so_far line text =
    if length so_far.events == 0 then with_naming so_far line (naming_of text) else Ok so_far

-- The record with one more line. A line that begins with '>' (62) is an event, one that begins with '#' (35) is
-- a pragma, and every other line is ignored.
unfoldable pub with_line : Record → ℕ → List ℕ → Result Record ReadFault
with_line so_far line [] = Ok so_far
with_line so_far line (byte ∷ text) =
    if byte == 62 then with_event so_far line text
    else (if byte == 35 then with_pragma so_far line text else Ok so_far)

-- the record with further lines, the first of which has this number
unfoldable pub record_from : Record → ℕ → List (List ℕ) → Result Record ReadFault
record_from so_far line [] = Ok so_far
record_from so_far line (text ∷ rest) = do
  next ← with_line so_far line text
  record_from next (line + 1) rest

-- The record of a text that is not too long: that of all its lines, numbered from 1.
unfoldable pub record_of : List ℕ → Result Record ReadFault
record_of bytes =
    if nat_lt most_bytes (length bytes) then Err (record { line = 0; why = why.TooLong })
    else record_from no_record 1 (lines_of bytes)

-- ---- what the reader answers for a line

abbrev pub IsEntry : Result Entry Why → Result NamedEvent Why → Type 0
IsEntry (Ok entry) meaning = meaning ≡ Ok (record { nick = entry.nick.now; event = entry.event })
IsEntry (Err fault) meaning = meaning ≡ Err fault
