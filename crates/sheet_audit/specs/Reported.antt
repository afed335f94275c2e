-- The wrong numbers of a sheet, each with its event and with what is right.
use Rattle.std.specs.Prelude.{◌≡◌, ◌⊎◌, ℕ, ℤ, ◌+ℤ◌, ◌||◌, Bool, List, [], ◌∷◌, ◌++◌, length, min, slice_get, Option, Some, None, if◌then◌else◌}
use Rattle.std.specs.List.{flat_map, range_with_len}
use Rattle.std.specs.Ordering.{int_eq}
use Rattle.ref_tiles.specs.declared.rulebook.Rules.{Rules}
use Rattle.gcg_read.specs.declared.events.Event.{Event}
use Rattle.gcg_read.specs.declared.events.Seat.{Seat}
use Rattle.gcg_read.specs.declared.events.Seat.TheVariants.{First, Second}
use Rattle.game_turns.specs.declared.faults.RuleFault.{RuleFault}
use Rattle.game_corrections.specs.Corrections.{IsCorrection, HavePoints, StopsAt}
use Rattle.game_corrections.specs.LastTotals.{last_total}
use Rattle.game_corrections.specs.WrongNumbers.{had_before, known_total, is_right_sum, wrong_lines, is_reported}
use Rattle.sheet_audit.specs.declared.reported.ReportedNumber.{ReportedNumber}
use Rattle.sheet_audit.specs.declared.reported.ReportedNumber.TheVariants as reported

-- ---- wrong numbers

-- a score that is not the one that the rules give
abbrev pub reported_score : (place : ℕ) → (written right : Event) → List ReportedNumber
reported_score place written right =
    if int_eq written.score right.score then [] else (reported.Score place written.line written.player written.score right.score ∷ [])

-- a total that is neither what the player had and the score, as they are written, nor the right one
abbrev pub reported_sum : (place : ℕ) → (had : ℤ) → (written : Event) → (right : Option ℤ) → List ReportedNumber
reported_sum place had written right =
    if is_right_sum written.total (had +ℤ written.score) right then []
    else (reported.Sum place written.line written.player written.total (had +ℤ written.score) right ∷ [])

abbrev pub reported_of : (stop : Option ℕ) → (events : List Event) → (place : ℕ) → (written right : Option Event) → List ReportedNumber
reported_of stop events place (Some e) (Some r) = reported_score place e r ++ reported_sum place (had_before events e.player place) e (known_total stop r)
reported_of stop events place None o = []
reported_of stop events place (Some e) None = []

-- what is wrong at a place
abbrev pub reported_at : (stop : Option ℕ) → (written right : List Event) → (place : ℕ) → List ReportedNumber
reported_at stop written right place = reported_of stop written place (slice_get written place) (slice_get right place)

-- all wrong scores and sums, in the order of the sheet; from the line on at which the correction stops, if it does, no right total is known
abbrev pub reported_lines : (stop : Option ℕ) → (written right : List Event) → List ReportedNumber
reported_lines stop written right = flat_map (reported_at stop written right) (range_with_len 0 (min (length written) (length right)))

-- the last total of a player, if it is not the right one and its line does not tell it
abbrev pub reported_total_of : Seat → (is_reported_there : Bool) → (written right : Option ℤ) → List ReportedNumber
reported_total_of player is_reported_there (Some written) (Some right) = if is_reported_there || int_eq written right then [] else (reported.Total player written right ∷ [])
reported_total_of player is_reported_there None o = []
reported_total_of player is_reported_there (Some written) None = []

abbrev pub reported_total : Seat → (written right : List Event) → List ReportedNumber
reported_total player written right = reported_total_of player (is_reported player right (wrong_lines None written right)) (last_total player written) (last_total player right)

-- the last totals that are not the right ones, but for those that are told by their lines
abbrev pub reported_totals : (written right : List Event) → List ReportedNumber
reported_totals written right = reported_total First written right ++ reported_total Second written right

-- the numbers of the answer about a sheet that has a correction: exactly the wrong scores and sums, and then the last totals that are wrong
pub record AreAllReported (rules : Rules) (list : List (List ℕ)) (written right : List Event) (numbers : List ReportedNumber) : Type 0 where
  pub correction : IsCorrection rules list written right
  pub all : numbers ≡ reported_lines None written right ++ reported_totals written right

-- if no numbers that a record can write make it a correction: exactly the wrong scores and sums, by the correction as far as it goes
pub record AreReportedToStop (rules : Rules) (list : List (List ℕ)) (written right : List Event) (numbers : List ReportedNumber) : Type 0 where
  pub line : ℕ
  pub why : RuleFault
  pub stops : StopsAt rules list written right line why
  pub none : (other : List Event) → HavePoints other → IsCorrection rules list written other → ⊥
  pub all : numbers ≡ reported_lines (Some line) written right

-- The numbers of the answer about a sheet, compared with its correction as far as that goes.
abbrev pub AreReported : Rules → (list : List (List ℕ)) → (written right : List Event) → List ReportedNumber → Type 0
AreReported rules list written right numbers = AreAllReported rules list written right numbers ⊎ AreReportedToStop rules list written right numbers
