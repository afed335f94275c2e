-- The wrong numbers of a sheet, found by comparing it with its correction.
use Rattle.std.specs.Prelude.{ℕ, ℤ, pos, ◌+ℤ◌, nat_lt, ◌==◌, ◌||◌, Bool, false, List, [], ◌∷◌, ◌++◌, take, length, min, slice_get, Option, Some, None, if◌then◌else◌}
use Rattle.std.specs.List.{flat_map, list_any, range_with_len}
use Rattle.std.specs.Option.{unwrap_or}
use Rattle.std.specs.Ordering.{int_eq}
use Rattle.gcg_read.specs.declared.events.Event.{Event}
use Rattle.gcg_read.specs.declared.events.Seat.{Seat}
use Rattle.gcg_read.specs.declared.events.Seat.TheVariants.{First, Second}
use Rattle.game_corrections.specs.declared.wrong_numbers.WrongNumber.{WrongNumber}
use Rattle.game_corrections.specs.declared.wrong_numbers.WrongNumber.TheVariants as wrong
use Rattle.game_corrections.specs.LastTotals.{last_total, last_line}

-- what a sheet says that a player had before a place: the player's last total, or 0 before the first
abbrev pub had_before : List Event → Seat → (place : ℕ) → ℤ
had_before events player place = unwrap_or (last_total player (take place events)) (pos 0)

-- a score that is not the one that the rules give
abbrev pub wrong_score : (written right : Event) → List WrongNumber
wrong_score written right = if int_eq written.score right.score then [] else (wrong.Score written.line written.score right.score ∷ [])

-- The right total of an event that is corrected. From the line on at which the correction stops, if it does, there is none.
abbrev pub known_total : (stop : Option ℕ) → (right : Event) → Option ℤ
known_total None right = Some right.total
known_total (Some stop) right = if nat_lt right.line stop then Some right.total else None

-- what a total should be: the right one, or the sum of the line if no right one is known
abbrev pub due : (sum : ℤ) → (right : Option ℤ) → ℤ
due sum right = unwrap_or right sum

-- A written total is right if it is the sum of the player's last total and the score, as they are written, or the right total. So one wrong
-- number does not make another one wrong: neither a total that carries it on nor the total after it.
abbrev pub is_right_sum : (total sum : ℤ) → (right : Option ℤ) → Bool
is_right_sum total sum right = int_eq total sum || int_eq total (due sum right)

-- a total that is neither
abbrev pub wrong_sum : (had : ℤ) → Event → (right : Option ℤ) → List WrongNumber
wrong_sum had e right = if is_right_sum e.total (had +ℤ e.score) right then [] else (wrong.Sum e.line e.total (had +ℤ e.score) right ∷ [])

abbrev pub wrong_of : (stop : Option ℕ) → (written : List Event) → (place : ℕ) → Option Event → Option Event → List WrongNumber
wrong_of stop written place (Some e) (Some r) = wrong_score e r ++ wrong_sum (had_before written e.player place) e (known_total stop r)
wrong_of stop written place None o = []
wrong_of stop written place (Some e) None = []

-- what is wrong at a place
abbrev pub wrong_at : (stop : Option ℕ) → (written right : List Event) → (place : ℕ) → List WrongNumber
wrong_at stop written right place = wrong_of stop written place (slice_get written place) (slice_get right place)

-- All wrong scores and sums, in the order of the sheet, compared with the events that are corrected up to a line, or with a correction.
unfoldable pub wrong_lines : (stop : Option ℕ) → (written right : List Event) → List WrongNumber
wrong_lines stop written right = flat_map (wrong_at stop written right) (range_with_len 0 (min (length written) (length right)))

-- whether a wrong number is the sum of a line
abbrev pub is_sum_of : (line : ℕ) → WrongNumber → Bool
is_sum_of line (wrong.Score own written right) = false
is_sum_of line (wrong.Sum own written sum right) = own == line
is_sum_of line (wrong.Total player written right) = false

abbrev pub is_reported_on : (line : Option ℕ) → (numbers : List WrongNumber) → Bool
is_reported_on None numbers = false
is_reported_on (Some line) numbers = list_any (is_sum_of line) numbers

-- whether the sum of a player's last line is among some wrong numbers
abbrev pub is_reported : Seat → List Event → (numbers : List WrongNumber) → Bool
is_reported player events numbers = is_reported_on (last_line player events) numbers

-- the last total of a player, if it is not the right one and its line does not tell it
abbrev pub wrong_total_of : Seat → (reported : Bool) → Option ℤ → Option ℤ → List WrongNumber
wrong_total_of player reported (Some written) (Some right) = if reported || int_eq written right then [] else (wrong.Total player written right ∷ [])
wrong_total_of player reported None o = []
wrong_total_of player reported (Some written) None = []

abbrev pub wrong_total : Seat → (lines : List WrongNumber) → (written right : List Event) → List WrongNumber
wrong_total player lines written right = wrong_total_of player (is_reported player right lines) (last_total player written) (last_total player right)

-- The last totals that are not the right ones. One whose sum is wrong is told by its line, so it is not told again.
abbrev pub wrong_totals : (lines : List WrongNumber) → (written right : List Event) → List WrongNumber
wrong_totals lines written right = wrong_total First lines written right ++ wrong_total Second lines written right

-- all wrong numbers of a sheet that has a correction
abbrev pub all_wrong : (lines : List WrongNumber) → (written right : List Event) → List WrongNumber
all_wrong lines written right = lines ++ wrong_totals lines written right
