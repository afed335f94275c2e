-- The written numbers of a draft that are wrong. A number that is missing counts nowhere: it is neither right nor wrong.
use Rattle.std.specs.Prelude.{ℤ, pos, neg_ℤ, ◌+ℤ◌, int_le, ◌&&◌, Bool, List, [], ◌∷◌, ◌++◌, Option, Some, None, if◌then◌else◌}
use Rattle.std.specs.Ordering.{int_eq}
use Rattle.gcg_read.specs.declared.events.Event.{Event}
use Rattle.gcg_read.specs.declared.events.Seat.{Seat}
use Rattle.gcg_read.specs.declared.events.Seat.TheVariants.{First, Second}
use Rattle.game_corrections.specs.declared.wrong_numbers.WrongNumber.{WrongNumber}
use Rattle.game_corrections.specs.declared.wrong_numbers.WrongNumber.TheVariants as number
use Rattle.game_corrections.specs.WrongNumbers.{wrong_sum}
use Rattle.game_walk.specs.declared.numbers.Numbers.{Numbers}
use Rattle.gcg_drafts.specs.declared.missing.Missing.{Missing}
use Rattle.gcg_drafts.specs.declared.missing.Missing.TheVariants as missing

-- ---- what the players have

-- What each player has: the last total, as the sheet goes on.
pub record Totals : Type 0 where
  pub first : ℤ
  pub second : ℤ

-- what they have before the first line
abbrev pub nothing : Totals
nothing = record { first = pos 0; second = pos 0 }

abbrev pub had_of : Totals → Seat → ℤ
had_of t First = t.first
had_of t Second = t.second

-- whether a record can write a number
abbrev pub is_written : ℤ → Bool
is_written n = int_le (neg_ℤ (pos 999999)) n && int_le n (pos 999999)

-- the total that a player has after a line with this score: what the player had and the score, if a record can write that sum
abbrev pub total_after : (had score : ℤ) → ℤ
total_after had score = if is_written (had +ℤ score) then had +ℤ score else had

-- The total of a line. If it is missing, it is what its player had and its score; and if that is missing too, the right score.
abbrev pub total_on : Missing → (had : ℤ) → Event → (right : Numbers) → ℤ
total_on missing.Nothing had e right = e.total
total_on missing.Total had e right = total_after had e.score
total_on missing.Both had e right = total_after had right.score

-- what the players have behind a line with this total
abbrev pub following : Totals → Seat → (total : ℤ) → Totals
following t First total = record t { first = total }
following t Second total = record t { second = total }

-- what a line lacks: nothing, if it is not said
abbrev pub said : Option Missing → Missing
said None = missing.Nothing
said (Some m) = m

-- ---- the numbers that are wrong

-- a score that is not the right one
abbrev pub wrong_score : Event → (right : ℤ) → List WrongNumber
wrong_score e right = if int_eq e.score right then [] else (number.Score e.line e.score right ∷ [])

-- Those of a line that are written, compared with the right ones, by what its player had.
abbrev pub wrong_on : Missing → (had : ℤ) → Event → (right : Numbers) → List WrongNumber
wrong_on missing.Nothing had e right = wrong_score e right.score ++ wrong_sum had e (Some right.total)
wrong_on missing.Total had e right = wrong_score e right.score
wrong_on missing.Both had e right = []

-- what the first line lacks: nothing, if it is not said; and what is said of the others
abbrev pub first_lack : List Missing → Missing
first_lack [] = missing.Nothing
first_lack (m ∷ lacks) = m

abbrev pub other_lacks : List Missing → List Missing
other_lacks [] = []
other_lacks (m ∷ lacks) = lacks

-- those of all lines, in their order, given what the players have before the first
abbrev pub wrong_from : Totals → (lacks : List Missing) → List Event → (right : List Numbers) → List WrongNumber
wrong_from t lacks [] right = []
wrong_from t lacks (e ∷ written) [] = []
wrong_from t lacks (e ∷ written) (r ∷ right) =
    wrong_on (first_lack lacks) (had_of t e.player) e r
    ++ wrong_from (following t e.player (total_on (first_lack lacks) (had_of t e.player) e r)) (other_lacks lacks) written right

-- the wrong numbers of a draft whose lines lack these
unfoldable pub wrong_written : (lacks : List Missing) → List Event → (right : List Numbers) → List WrongNumber
wrong_written lacks written right = wrong_from nothing lacks written right
