-- What may be wrong with the position of a play.
use Rattle.std.specs.Prelude.{ℕ, ◌+◌, ◌/◌, ◌%◌, ◌==◌, ◌||◌, Bool, List, [], ◌∷◌, ◌++◌, if◌then◌else◌}
use Rattle.ref_board.specs.declared.directions.Dir.{Dir}
use Rattle.ref_board.specs.declared.directions.Dir.TheVariants.{Across, Down}
use Rattle.ref_board.specs.Lines.{line_of, place_of, square_at}
use Rattle.repair_changes.specs.declared.slips.Slip.{Slip}
use Rattle.repair_changes.specs.declared.slips.Slip.TheVariants as slip
use Rattle.repair_changes.specs.declared.slips.PositionSlip.TheVariants as position
use Rattle.repair_slips.specs.Each.{lists_below}

-- whether two places are next to each other
abbrev pub are_beside : ℕ → ℕ → Bool
are_beside place other = place + 1 == other || other + 1 == place

-- the square at a place of the line of a direction on which the play begins, if that is a different one
unfoldable pub elsewhere : Dir → (at : ℕ) → (place : ℕ) → List Slip
elsewhere d at place =
    if place == place_of d at then []
    else (if are_beside place (place_of d at) then slip.Position (position.OneOff (square_at d (line_of d at) place)) ∷ []
    else slip.Position (position.Further (square_at d (line_of d at) place)) ∷ [])

-- all other squares of that line
unfoldable pub on_line : Dir → (at : ℕ) → List Slip
on_line d at = lists_below (elsewhere d at) 15

-- row and column interchanged, if they are different numbers
unfoldable pub interchanged : (at : ℕ) → List Slip
interchanged at = if at / 15 == at % 15 then [] else slip.Position position.Interchanged ∷ []

-- The other direction; each other square of the row and of the column; row and column interchanged.
unfoldable pub position_slips : (at : ℕ) → List Slip
position_slips at = slip.Position position.OtherDirection ∷ on_line Across at ++ on_line Down at ++ interchanged at
