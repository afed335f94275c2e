-- Two sheets of one game, line by line.
use Rattle.std.specs.Prelude.{◌≡◌, ℕ, ◌+◌, ◌&&◌, nat_lt, Bool, List, filter, length, Option, is_some, if◌then◌else◌}
use Rattle.gcg_read.specs.Players.{same_seat}
use Rattle.gcg_read.specs.declared.events.Event.{Event}
use Rattle.gcg_read.specs.declared.events.Seat.{Seat}
use Rattle.gcg_read.specs.declared.events.Seat.TheVariants.{First, Second}
use Rattle.gcg_read.specs.declared.records.Record.{Record}
use Rattle.compare_alignments.specs.declared.lacking.Lacks.{Lacks}
use Rattle.compare_alignments.specs.Alignments.{IsAlignment, AlignsItself}
use Rattle.compare_choices.specs.declared.sheets.Sheets.{Sheets}

-- an event is a player's, and its line states a rack
abbrev pub states_rack : (player : Seat) → Event → Bool
states_rack player e = same_seat e.player player && is_some e.rack

-- how many racks of a player a sheet states
abbrev pub racks_of : (player : Seat) → List Event → ℕ
racks_of player events = length (filter (states_rack player) events)

-- Whose sheet the first one is: the choice with which more of the stated racks are those of the player whose sheet states them. If both choices are
-- as good, the first sheet is the first player's.
abbrev pub owner_of : (first second : List Event) → Seat
owner_of first second = if nat_lt (racks_of First first + racks_of Second second) (racks_of Second first + racks_of First second) then Second else First

-- Two sheets, whose they are, and their lines, aligned; and what these lack, if the sheets are drafts.
pub record AreSheets (one other : Record) (lacks : Option Lacks) (s : Sheets) : Type 0 where
  pub is_first : s.first ≡ one
  pub is_second : s.second ≡ other
  pub lacking : s.lacks ≡ lacks
  pub owner : s.owner ≡ owner_of one.events other.events
  pub aligned : IsAlignment one.events other.events s.pairs.items
  pub itself : AlignsItself one.events other.events s.pairs.items
