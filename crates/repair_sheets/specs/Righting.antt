-- An event without a slip that runs through a sheet.
use Rattle.std.specs.Prelude.{ℕ, Bool, true, false, List, map, Option, is_some}
use Rattle.std.specs.Option.{unwrap_or}
use Rattle.ref_tiles.specs.declared.symbols.Symbol.{Symbol}
use Rattle.ref_tiles.specs.declared.symbols.Symbol.TheVariants as symbol
use Rattle.ref_board.specs.declared.directions.Dir.{Dir}
use Rattle.ref_board.specs.Lines.{other_dir}
use Rattle.gcg_read.specs.Players.{other_seat}
use Rattle.gcg_read.specs.declared.events.Event.{Event}
use Rattle.gcg_read.specs.declared.events.EventKind.{EventKind}
use Rattle.gcg_read.specs.declared.events.EventKind.TheVariants as kind
use Rattle.gcg_read.specs.declared.events.Seat.{Seat}
use Rattle.repair_sheets.specs.declared.slips.RunningSlip.{RunningSlip}
use Rattle.repair_sheets.specs.declared.slips.RunningSlip.TheVariants as running
use Rattle.repair_sheets.specs.declared.slips.Way.{Way}
use Rattle.repair_sheets.specs.Blanks.{laid_by, has_blank}
use Rattle.repair_sheets.specs.Squares.{next_square}

-- ---- a play

-- the square on which it begins; one that has no square next to it stays
abbrev pub right_square : RunningSlip → (at : ℕ) → ℕ
right_square (running.OneOff way) at = unwrap_or (next_square way at) at
right_square other at = at

-- its direction
abbrev pub right_dir : RunningSlip → Dir → Dir
right_dir running.Interchanged d = other_dir d
right_dir other d = d

-- a small letter for a capital, and a capital for a small letter
abbrev pub other_case : Symbol → Symbol
other_case symbol.Dot = symbol.Dot
other_case (symbol.Letter letter) = symbol.Blank letter
other_case (symbol.Blank letter) = symbol.Letter letter

-- its text, given the rack that its line states
abbrev pub right_word : RunningSlip → (rack : Option (List ℕ)) → List Symbol → List Symbol
right_word running.OtherCase rack word = map other_case word
right_word running.CapitalBlanks rack word = laid_by rack word
right_word other rack word = word

-- ---- an event

-- what happened, given the rack that its line states
abbrev pub right_kind : RunningSlip → (rack : Option (List ℕ)) → EventKind → EventKind
right_kind s rack (kind.Play at d word) = kind.Play (right_square s at) (right_dir s d) (right_word s rack word)
right_kind s rack other = other

-- the player whose line it is
abbrev pub right_player : RunningSlip → Seat → Seat
right_player running.OtherPlayer player = other_seat player
right_player other player = player

-- the event without the slip
abbrev pub right_event : RunningSlip → Event → Event
right_event s e = record e { player = right_player s e.player; kind = right_kind s e.rack e.kind }

-- ---- whether an event may have the slip

-- the board has the right square
abbrev pub has_next : Way → EventKind → Bool
has_next way (kind.Play at d word) = is_some (next_square way at)
has_next way other = true

abbrev pub may_have : RunningSlip → EventKind → Bool
may_have (running.OneOff way) what = has_next way what
may_have other what = true

abbrev pub is_play : EventKind → Bool
is_play (kind.Play at d word) = true
is_play other = false

-- Whether the line of an event is another one with the slip than without it: that of a play; if blanks are capitals, of one with a blank; and if the players
-- are exchanged, each.
abbrev pub changes : RunningSlip → EventKind → Bool
changes running.OtherPlayer what = true
changes running.CapitalBlanks what = has_blank what
changes other what = is_play what
