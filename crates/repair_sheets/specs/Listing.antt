-- All slips of a whole sheet that a record may have.
use Rattle.std.specs.Prelude.{ℕ, ◌&&◌, nat_le, Bool, true, false, List, [], ◌∷◌, ◌++◌, take, drop, if◌then◌else◌}
use Rattle.std.specs.List.{count_by, flat_map, range_with_len}
use Rattle.gcg_read.specs.declared.events.Event.{Event}
use Rattle.gcg_read.specs.declared.events.EventKind.{EventKind}
use Rattle.gcg_read.specs.declared.events.EventKind.TheVariants as kind
use Rattle.gcg_unread.specs.declared.lines.UnreadLine.{UnreadLine}
use Rattle.gcg_unread.specs.declared.reasons.UnreadWhy.{UnreadWhy}
use Rattle.gcg_unread.specs.declared.reasons.UnreadWhy.TheVariants as why
use Rattle.gcg_unread.specs.Lines.{unread_of}
use Rattle.repair_sheets.specs.declared.slips.RunningSlip.{RunningSlip}
use Rattle.repair_sheets.specs.declared.slips.RunningSlip.TheVariants as running
use Rattle.repair_sheets.specs.declared.slips.SheetSlip.{SheetSlip}
use Rattle.repair_sheets.specs.declared.slips.SheetSlip.TheVariants as slip
use Rattle.repair_sheets.specs.declared.slips.Way.TheVariants as way
use Rattle.repair_sheets.specs.Blanks.{has_capital}
use Rattle.repair_sheets.specs.Righting.{is_play}

-- ---- slips that run through the sheet

-- a play, a pass or an exchange
abbrev pub is_turn : EventKind → Bool
is_turn (kind.Play at d word) = true
is_turn kind.Pass = true
is_turn (kind.Exchange tiles) = true
is_turn (kind.ExchangeUnknown n) = true
is_turn other = false

-- A slip begins on the line of a play; if blanks are capitals, on one with such a capital; and if the players are exchanged, on that of a turn.
abbrev pub may_begin : RunningSlip → Event → Bool
may_begin running.OtherPlayer e = is_turn e.kind
may_begin running.CapitalBlanks e = has_capital e.rack e.kind
may_begin other e = is_play e.kind

-- On how many other lines at least a slip may begin with which it goes on: a slip on one line or on two is not one of the whole sheet. But a game has only two
-- blanks.
abbrev pub fewest_others : RunningSlip → ℕ
fewest_others running.CapitalBlanks = 1
fewest_others other = 2

-- It may begin with the first of these events, and goes on.
abbrev pub runs_on : RunningSlip → List Event → Bool
runs_on s [] = false
runs_on s (e ∷ events) = may_begin s e && nat_le (fewest_others s) (count_by (may_begin s) events)

abbrev pub running_from : List Event → (place : ℕ) → RunningSlip → List SheetSlip
running_from events place s = if runs_on s (drop place events) then slip.Running place s ∷ [] else []

-- those that begin at a place
unfoldable pub running_at : List Event → (place : ℕ) → List SheetSlip
running_at events place =
    running_from events place running.Interchanged ++ running_from events place (running.OneOff way.Left) ++ running_from events place (running.OneOff way.Right)
    ++ running_from events place (running.OneOff way.Up) ++ running_from events place (running.OneOff way.Down) ++ running_from events place running.OtherCase
    ++ running_from events place running.CapitalBlanks ++ running_from events place running.OtherPlayer

-- ---- lines that are not read

-- whether a line would be an event but for what it begins with
abbrev pub is_event : UnreadWhy → Bool
is_event why.Parts = false
is_event other = true

abbrev pub unread_slip : UnreadLine → List SheetSlip
unread_slip line = if is_event line.why then slip.Unread line ∷ [] else []

-- those of the first 16 lines of a text that are not read
unfoldable pub unread_slips : (text : List ℕ) → List SheetSlip
unread_slips text = flat_map unread_slip (take 16 (unread_of text))

-- All of them: a line that is not read is an event; or a slip runs through the sheet from one of the first `places` events on.
unfoldable pub sheet_slips : (text : List ℕ) → List Event → (places : ℕ) → List SheetSlip
sheet_slips text events places = unread_slips text ++ flat_map (running_at events) (range_with_len 0 places)
