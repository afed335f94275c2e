-- The text of a sheet without a slip that runs through it.
use Rattle.std.specs.Prelude.{ℕ, ◌&&◌, nat_le, List, [], ◌∷◌, ◌++◌, slice_get, Option, Some, None, if◌then◌else◌}
use Rattle.std.specs.List.{join_with_byte}
use Rattle.gcg_read.specs.declared.events.Event.{Event}
use Rattle.gcg_read.specs.declared.players.Players.{Players}
use Rattle.gcg_numbers.specs.Numbers.{is_event_line, line_with, mark_of}
use Rattle.gcg_write.specs.Normal.{event_line}
use Rattle.repair_sheets.specs.declared.slips.RunningSlip.{RunningSlip}
use Rattle.repair_sheets.specs.Righting.{changes}
use Rattle.repair_rewrites.specs.EventLines.{lines_of}
use Rattle.repair_rewrites.specs.Replacing.{return_of}
use Rattle.repair_rewrites.specs.Texts.{number_after}

-- The line of an event with a number, counted from 0: from a place on each line that the slip changes is written anew, with its line end; every other line
-- has the right numbers.
abbrev pub anew_or_numbered : RunningSlip → (place : ℕ) → Players → (number : ℕ) → (line : List ℕ) → Event → List ℕ
anew_or_numbered s place players number line e = if nat_le place number && changes s e.kind then event_line players e ++ return_of line else line_with e line

abbrev pub of_event : RunningSlip → (place : ℕ) → Players → (number : ℕ) → (line : List ℕ) → Option Event → List ℕ
of_event s place players number line None = line
of_event s place players number line (Some e) = anew_or_numbered s place players number line e

-- a line before which there are `number` event lines: one that is not of an event stays
abbrev pub line_without : RunningSlip → (place : ℕ) → Players → (right : List Event) → (number : ℕ) → (line : List ℕ) → List ℕ
line_without s place players right number line = if is_event_line line then of_event s place players number line (slice_get right number) else line

abbrev pub lines_without : RunningSlip → (place : ℕ) → Players → (right : List Event) → (number : ℕ) → (lines : List (List ℕ)) → List (List ℕ)
lines_without s place players right number [] = []
lines_without s place players right number (line ∷ lines) =
    line_without s place players right number line ∷ lines_without s place players right (number_after line number) lines

unfoldable pub text_without : RunningSlip → (place : ℕ) → Players → (right : List Event) → (text : List ℕ) → List ℕ
text_without s place players right text = mark_of text ++ join_with_byte 10 (lines_without s place players right 0 (lines_of text))
