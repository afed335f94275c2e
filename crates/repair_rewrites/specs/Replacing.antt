-- What replaces an event line of a sheet with a change.
use Rattle.std.specs.Prelude.{ℕ, ◌+◌, ◌-◌, ◌==◌, ◌&&◌, eqb, nat_lt, Bool, true, false, List, [], ◌∷◌, ◌++◌, slice_get, Option, Some, None, if◌then◌else◌}
use Rattle.std.specs.List.{ends_with}
use Rattle.gcg_read.specs.declared.events.Event.{Event}
use Rattle.gcg_read.specs.declared.players.Players.{Players}
use Rattle.gcg_numbers.specs.Numbers.{line_with}
use Rattle.gcg_write.specs.Normal.{event_line}
use Rattle.repair_changes.specs.declared.slips.Change.{Change}
use Rattle.repair_changes.specs.declared.slips.Slip.{Slip}
use Rattle.repair_changes.specs.declared.slips.Slip.TheVariants as slip

-- a CR at the end of a line
abbrev pub return_of : List ℕ → List ℕ
return_of line = if ends_with eqb line (13 ∷ []) then 13 ∷ [] else []

-- an event in its normal form, with the line end of the line beside it
abbrev pub new_line : Players → Option Event → (beside : List ℕ) → List (List ℕ)
new_line players None beside = []
new_line players (Some e) beside = (event_line players e ++ return_of beside) ∷ []

-- a line with the numbers of its event, if there is one
abbrev pub numbered : List ℕ → Option Event → List ℕ
numbered line None = line
numbered line (Some e) = line_with e line

-- a line of the sheet with the numbers of its event
abbrev pub old_line : Option (List ℕ) → Option Event → List (List ℕ)
old_line None e = []
old_line (Some line) e = numbered line e ∷ []

-- the number of the line that is here, if that at a place and another one after it are in each other's place
abbrev pub other_of : (place over number : ℕ) → ℕ
other_of place over number = if number == place then number + over else if number == place + over then place else number

-- two lines in each other's place
abbrev pub exchanged : (place over : ℕ) → (lines : List (List ℕ)) → (right : List Event) → (number : ℕ) → List (List ℕ)
exchanged place over lines right number = old_line (slice_get lines (other_of place over number)) (slice_get right number)

-- a line that should not be there, and those after it
abbrev pub omitted : (place : ℕ) → (right : List Event) → (line : List ℕ) → (number : ℕ) → List (List ℕ)
omitted place right line number =
    if number == place then [] else old_line (Some line) (slice_get right (if nat_lt place number then number - 1 else number))

-- a line, if another one is missing before it or after it
abbrev pub beside_missing : (place : ℕ) → (right : List Event) → (line : List ℕ) → (number : ℕ) → List (List ℕ)
beside_missing place right line number = old_line (Some line) (slice_get right (if nat_lt number place then number else number + 1))

-- a line that is written anew, and the others
abbrev pub changed : (place : ℕ) → Players → (right : List Event) → (line : List ℕ) → (number : ℕ) → List (List ℕ)
changed place players right line number =
    if number == place then new_line players (slice_get right number) line else old_line (Some line) (slice_get right number)

-- The lines that replace the event line with a number, counted from 0, among those of the sheet. `right` are the events with the change.
abbrev pub in_place : Slip → (place : ℕ) → Players → (lines : List (List ℕ)) → (right : List Event) → (line : List ℕ) → (number : ℕ) → List (List ℕ)
in_place slip.Swapped place players lines right line number = exchanged place 1 lines right number
in_place slip.SwappedOver place players lines right line number = exchanged place 2 lines right number
in_place slip.Repeated place players lines right line number = omitted place right line number
in_place slip.ExtraPass place players lines right line number = omitted place right line number
in_place slip.Extra place players lines right line number = omitted place right line number
in_place (slip.Missing missing) place players lines right line number = beside_missing place right line number
in_place other place players lines right line number = changed place players right line number

abbrev pub is_missing : Slip → Bool
is_missing (slip.Missing missing) = true
is_missing other = false

-- the missing line, if it is missing at this number
abbrev pub missing_at : Change → (number : ℕ) → Players → (right : List Event) → (beside : List ℕ) → List (List ℕ)
missing_at change number players right beside =
    if is_missing change.slip && (number == change.place) then new_line players (slice_get right number) beside else []
