-- Squares, and their lines and places.
use Rattle.std.proofs.Common.{◌≡◌, ℕ, ◌<◌, arith}
use Rattle.ref_board.specs.declared.directions.Dir.{Dir}
use Rattle.ref_board.specs.declared.directions.Dir.TheVariants.{Across, Down}
use Rattle.ref_board.specs.Lines.{line_of, place_of, square_at}

pub line_of-square_at : (d : Dir) (line place : ℕ) → line < 15 → place < 15 → line_of d (square_at d line place) ≡ line
line_of-square_at Across line place l p = omega arith
line_of-square_at Down line place l p = omega arith

pub place_of-square_at : (d : Dir) (line place : ℕ) → line < 15 → place < 15 → place_of d (square_at d line place) ≡ place
place_of-square_at Across line place l p = omega arith
place_of-square_at Down line place l p = omega arith

pub square_at-of : (d : Dir) (square : ℕ) → square_at d (line_of d square) (place_of d square) ≡ square
square_at-of Across square = omega arith
square_at-of Down square = omega arith

pub line_below : (d : Dir) (square : ℕ) → square < 225 → line_of d square < 15
line_below Across square h = omega arith
line_below Down square h = omega arith

pub place_below : (d : Dir) (square : ℕ) → square < 225 → place_of d square < 15
place_below Across square h = omega arith
place_below Down square h = omega arith

pub square_at_below : (d : Dir) (line place : ℕ) → line < 15 → place < 15 → square_at d line place < 225
square_at_below Across line place l p = omega arith
square_at_below Down line place l p = omega arith

-- on one line, the squares rise as the places do
pub square_at_rises : (d : Dir) (line a b : ℕ) → a < b → square_at d line a < square_at d line b
square_at_rises Across line a b h = omega arith
square_at_rises Down line a b h = omega arith

-- squares with the same line and the same place are equal
pub same_square : (d : Dir) (a b : ℕ) → line_of d a ≡ line_of d b → place_of d a ≡ place_of d b → a ≡ b
same_square Across a b l p = omega arith
same_square Down a b l p = omega arith

-- on one line, the places rise as the squares do
pub place_rises : (d : Dir) (a b : ℕ) → line_of d a ≡ line_of d b → a < b → place_of d a < place_of d b
place_rises Across a b l h = omega arith
place_rises Down a b l h = omega arith
