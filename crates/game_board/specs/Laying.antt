-- Laying the plays of a record, whatever else is wrong with it.
use Rattle.std.specs.Prelude.{◌≡◌, ℕ, ◌<◌, List, Option, Some, None, slice_get, take, reverse}
use Rattle.ref_tiles.specs.declared.tiles.Tile.{Tile}
use Rattle.ref_play.specs.declared.faults.PlayFault.{PlayFault}
use Rattle.ref_play.specs.Placements.{with_tiles}
use Rattle.ref_play.specs.Texts.{placement_of}
use Rattle.gcg_read.specs.declared.events.Event.{Event}
use Rattle.gcg_read.specs.declared.events.EventKind.{EventKind}
use Rattle.gcg_read.specs.declared.events.EventKind.TheVariants as kind
use Rattle.game_turns.specs.Checks.{play_fault}
use Rattle.game_turns.specs.Standing.{board_at}
use Rattle.game_turns.specs.Tallies.{withdraws}

-- The board before the event at a place of a record, or after the last event at its end: the tiles of the plays that stand, and
-- those of a play that the event at the place takes back. It is the board of the tally there.
unfoldable pub board_before : List Event → (place : ℕ) → List (Option Tile)
board_before events place = board_at (withdraws (slice_get events place)) (reverse (take place events))

-- why the play of an event cannot be laid on a board: the first fault of its text, or of the placement that it names
abbrev pub kind_fault : List (Option Tile) → EventKind → Option PlayFault
kind_fault board (kind.Play at dir word) = play_fault board dir at word
kind_fault board other = None

abbrev pub fault_on : List (Option Tile) → Option Event → Option PlayFault
fault_on board None = None
fault_on board (Some e) = kind_fault board e.kind

-- why the play at a place cannot be laid on the board before it; none if it can, or if the event is not a play
unfoldable pub laying_fault : List Event → (place : ℕ) → Option PlayFault
laying_fault events place = fault_on (board_before events place) (slice_get events place)

-- the board with the play of an event, if it is one
abbrev pub laid_on : List (Option Tile) → EventKind → List (Option Tile)
laid_on board (kind.Play at dir word) = with_tiles board (placement_of board dir at word)
laid_on board other = board

-- laying ends at the requested place, or before it, at a play that cannot be laid
abbrev pub EndsWith : List Event → (asked end : ℕ) → Option PlayFault → Type 0
EndsWith events asked end None = end ≡ asked
EndsWith events asked end (Some why) = (end < asked) × (laying_fault events end ≡ Some why)

-- The plays before a place are laid, and laying ends there. The place is the requested one, or that of the first play that cannot be laid.
pub record AreLaid (events : List Event) (asked end : ℕ) (why : Option PlayFault) : Type 0 where
  pub laid : (place : ℕ) → place < end → laying_fault events place ≡ None
  pub ended : EndsWith events asked end why
