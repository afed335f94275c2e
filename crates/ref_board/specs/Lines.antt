-- Squares by number, and the lines on which they lie. A row is a line across, a column a line down.
use Rattle.std.specs.Prelude.{ℕ, ◌+◌, ◌*◌, ◌/◌, ◌%◌}
use Rattle.ref_board.specs.declared.directions.Dir.{Dir}
use Rattle.ref_board.specs.declared.directions.Dir.TheVariants.{Across, Down}

-- the other direction
abbrev pub other_dir : Dir → Dir
other_dir Across = Down
other_dir Down = Across

-- the number of the square in this row and this column, both from 0
abbrev pub square_in : ℕ → ℕ → ℕ
square_in row column = 15 * row + column

-- the line of the direction on which a square lies: its row across, its column down
abbrev pub line_of : Dir → ℕ → ℕ
line_of Across square = square / 15
line_of Down square = square % 15

-- the place of a square on its line
abbrev pub place_of : Dir → ℕ → ℕ
place_of Across square = square % 15
place_of Down square = square / 15

-- the square at a place of a line
abbrev pub square_at : Dir → ℕ → ℕ → ℕ
square_at Across line place = square_in line place
square_at Down line place = square_in place line
