-- The numbers of an answer, by the wrong numbers of an audit and the events of its record.
use Rattle.std.specs.Prelude.{ℕ, ℤ, List, [], ◌∷◌, slice_get, Option, Some, None}
use Rattle.std.specs.List.{flat_map}
use Rattle.gcg_read.specs.declared.events.Event.{Event}
use Rattle.game_board.specs.Places.{place_of_line}
use Rattle.game_corrections.specs.declared.wrong_numbers.WrongNumber.{WrongNumber}
use Rattle.game_corrections.specs.declared.wrong_numbers.WrongNumber.TheVariants as wrong
use Rattle.game_case.specs.declared.audits.Audit.{Audit}
use Rattle.sheet_audit.specs.declared.reported.ReportedNumber.{ReportedNumber}
use Rattle.sheet_audit.specs.declared.reported.ReportedNumber.TheVariants as reported

-- a score, by the event on its line
abbrev pub score_of : (place line : ℕ) → (written right : ℤ) → Option Event → List ReportedNumber
score_of place line written right None = []
score_of place line written right (Some e) = reported.Score place line e.player written right ∷ []

abbrev pub score_on : List Event → (line : ℕ) → (written right : ℤ) → (place : Option ℕ) → List ReportedNumber
score_on events line written right None = []
score_on events line written right (Some place) = score_of place line written right (slice_get events place)

-- a sum, by the event on its line
abbrev pub sum_of : (place line : ℕ) → (written sum : ℤ) → (right : Option ℤ) → Option Event → List ReportedNumber
sum_of place line written sum right None = []
sum_of place line written sum right (Some e) = reported.Sum place line e.player written sum right ∷ []

abbrev pub sum_on : List Event → (line : ℕ) → (written sum : ℤ) → (right : Option ℤ) → (place : Option ℕ) → List ReportedNumber
sum_on events line written sum right None = []
sum_on events line written sum right (Some place) = sum_of place line written sum right (slice_get events place)

abbrev pub reported_number : List Event → WrongNumber → List ReportedNumber
reported_number events (wrong.Score line written right) = score_on events line written right (place_of_line events line)
reported_number events (wrong.Sum line written sum right) = sum_on events line written sum right (place_of_line events line)
reported_number events (wrong.Total player written right) = reported.Total player written right ∷ []

-- all of them, in their order
unfoldable pub reported_numbers : Audit → List ReportedNumber
reported_numbers a = flat_map (reported_number a.entry.record.events) a.wrong.items
