-- The square next to another one.
use Rattle.std.specs.Prelude.{ℕ, ◌+◌, ◌-◌, ◌/◌, ◌%◌, ◌==◌, Option, Some, None, if◌then◌else◌}
use Rattle.ref_board.specs.Lines.{square_in}
use Rattle.repair_sheets.specs.declared.slips.Way.{Way}
use Rattle.repair_sheets.specs.declared.slips.Way.TheVariants as way

abbrev pub remaining_of : (at : ℕ) → Option ℕ
remaining_of at = if at % 15 == 0 then None else Some (square_in (at / 15) (at % 15 - 1))

abbrev pub right_of : (at : ℕ) → Option ℕ
right_of at = if at % 15 + 1 == 15 then None else Some (square_in (at / 15) (at % 15 + 1))

abbrev pub above : (at : ℕ) → Option ℕ
above at = if at / 15 == 0 then None else Some (square_in (at / 15 - 1) (at % 15))

abbrev pub below : (at : ℕ) → Option ℕ
below at = if at / 15 + 1 == 15 then None else Some (square_in (at / 15 + 1) (at % 15))

-- none past an edge of the board
abbrev pub next_square : Way → (at : ℕ) → Option ℕ
next_square way.Left at = remaining_of at
next_square way.Right at = right_of at
next_square way.Up at = above at
next_square way.Down at = below at
