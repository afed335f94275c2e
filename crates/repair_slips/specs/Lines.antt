-- What may be wrong with one event of a record.
use Rattle.std.specs.Prelude.{ℕ, ◌+◌, ◌-◌, ◌==◌, ◌&&◌, Bool, true, false, nat_lt, List, [], ◌∷◌, ◌++◌, length, take, drop, slice_get, Option, Some, None, if◌then◌else◌}
use Rattle.std.specs.Ordering.{int_eq}
use Rattle.ref_tiles.specs.declared.symbols.Symbol.{Symbol}
use Rattle.ref_tiles.specs.declared.rulebook.Rules.{Rules}
use Rattle.gcg_read.specs.Players.{same_seat}
use Rattle.gcg_read.specs.declared.events.Event.{Event}
use Rattle.gcg_read.specs.declared.events.EventKind.{EventKind}
use Rattle.gcg_read.specs.declared.events.EventKind.TheVariants as kind
use Rattle.game_turns.specs.Tallies.{State}
use Rattle.repair_changes.specs.declared.slips.Slip.{Slip}
use Rattle.repair_changes.specs.declared.slips.Slip.TheVariants as slip
use Rattle.repair_changes.specs.declared.slips.CodeSlip.TheVariants as code
use Rattle.repair_changes.specs.declared.slips.TilesOf.TheVariants as tiles_of
use Rattle.repair_slips.specs.Positions.{position_slips}
use Rattle.repair_slips.specs.Spellings.{spelling_slips}
use Rattle.repair_slips.specs.Tiles.{other_tiles, extra_tiles, tile_slips}
use Rattle.repair_slips.specs.Amounts.{other_bonuses, other_penalties, other_numbers, exchanges}
use Rattle.repair_slips.specs.Laying.{laying_slips}
use Rattle.repair_slips.specs.Rests.{rest_tiles, rest_for}
use Rattle.repair_slips.specs.Misreadings.{misread_slips}

-- what may be wrong with a play, judged only by its line
abbrev pub play_slips : (at : ℕ) → (word : List Symbol) → List Slip
play_slips at word = position_slips at ++ spelling_slips word

-- a pass may have been an exchange or a withdrawal
abbrev pub pass_slips : List Slip
pass_slips = exchanges ++ slip.Code code.Withdrawal ∷ []

-- an exchange of unknown tiles may have been one of another number, or a pass
abbrev pub unknown_slips : (number : ℕ) → List Slip
unknown_slips number = other_numbers number ++ slip.Code code.Pass ∷ []

-- a withdrawal may have been a pass
abbrev pub withdrawal_slips : List Slip
withdrawal_slips = slip.Code code.Pass ∷ []

-- what may be wrong with what happened, judged only by the line
abbrev pub kind_slips : Rules → Event → EventKind → List Slip
kind_slips rules e (kind.Play at dir word) = play_slips at word
kind_slips rules e kind.Pass = pass_slips
kind_slips rules e (kind.Exchange tiles) = tile_slips tiles_of.Exchange tiles
kind_slips rules e (kind.ExchangeUnknown n) = unknown_slips n
kind_slips rules e kind.Withdraw = withdrawal_slips
kind_slips rules e kind.Challenge = other_bonuses rules e.score
kind_slips rules e kind.Time = other_penalties rules e.score
kind_slips rules e (kind.LastRack tiles) = tile_slips tiles_of.LastRack tiles

-- what may be wrong with it, judged by the board before the line, and by the lines before and after
abbrev pub board_slips : Rules → State → (before following : List Event) → EventKind → List Slip
board_slips rules s before following (kind.Play at dir word) = laying_slips s.board dir at word
board_slips rules s before following (kind.LastRack tiles) = rest_for tiles (rest_tiles rules s.board before following)
board_slips rules s before following other = []

-- whether the line of an event states the rack of a turn
abbrev pub states_rack : EventKind → Bool
states_rack (kind.Play at dir word) = true
states_rack kind.Pass = true
states_rack (kind.Exchange tiles) = true
states_rack (kind.ExchangeUnknown n) = true
states_rack other = false

abbrev pub slips_of_rack : Option (List ℕ) → List Slip
slips_of_rack None = []
slips_of_rack (Some tiles) = other_tiles tiles_of.Rack tiles ++ extra_tiles tiles_of.Rack tiles ++ slip.NoRack ∷ []

-- A tile of the stated rack of a turn may be a different one or one too many; or the whole rack is wrong.
abbrev pub rack_slips : Event → List Slip
rack_slips e = if states_rack e.kind then slips_of_rack e.rack else []

-- the event before a place, if there is one
abbrev pub event_before : List Event → (place : ℕ) → Option Event
event_before events place = if place == 0 then None else slice_get events (place - 1)

-- whether an event has the player, the score and the total of the one before it
abbrev pub repeats : Event → Option Event → Bool
repeats e None = false
repeats e (Some before) = same_seat e.player before.player && int_eq e.score before.score && int_eq e.total before.total

-- a line that should not be there: a pass is distinguished from the others
abbrev pub extra_slip : EventKind → Slip
extra_slip kind.Pass = slip.ExtraPass
extra_slip other = slip.Extra

abbrev pub extra_line : Event → (before : Option Event) → List Slip
extra_line e before = if repeats e before then slip.Repeated ∷ [] else extra_slip e.kind ∷ []

-- A line may be in the place of the next one, or of the one after that.
unfoldable pub swapped_lines : (events : List Event) → (place : ℕ) → List Slip
swapped_lines events place =
    (if nat_lt (place + 1) (length events) then slip.Swapped ∷ [] else [])
    ++ (if nat_lt (place + 2) (length events) then slip.SwappedOver ∷ [] else [])

-- Any line may be the other player's, or should not be there, or is in the place of another.
abbrev pub line_slips : (events : List Event) → (place : ℕ) → Event → List Slip
line_slips events place e = slip.OtherPlayer ∷ extra_line e (event_before events place) ++ swapped_lines events place

-- all that may be wrong with an event at a place, by the state before it
unfoldable pub event_slips : Rules → State → (events : List Event) → (place : ℕ) → Event → List Slip
event_slips rules s events place e =
    kind_slips rules e e.kind ++ board_slips rules s (take place events) (drop (place + 1) events) e.kind ++ rack_slips e ++ line_slips events place e
    ++ misread_slips e
