-- What a placement scores.
use Rattle.std.specs.Prelude.{ℕ, ◌+◌, ◌*◌, ◌==◌, List, [], ◌∷◌, ◌++◌, length, map, sum_by, Option, Some, None, if◌then◌else◌}
use Rattle.std.specs.List.{range_with_len}
use Rattle.ref_tiles.specs.declared.tiles.Tile.{Tile}
use Rattle.ref_tiles.specs.declared.rulebook.Rules.{Rules}
use Rattle.ref_tiles.specs.Rulebook.{points_of, premium_at, letter_factor, word_factor}
use Rattle.ref_board.specs.declared.directions.Dir.TheVariants.{Across, Down}
use Rattle.ref_board.specs.Cells.{tile_at}
use Rattle.ref_play.specs.declared.placed.Placed.{Placed}
use Rattle.ref_play.specs.declared.runs.Run.{Run}
use Rattle.ref_play.specs.Placements.{with_tiles, covers}
use Rattle.ref_play.specs.Formed.{along, is_on, runs_along}

abbrev pub product : List ℕ → ℕ
product [] = 1
product (x ∷ xs) = x * product xs

-- the points of the tile on a square
abbrev pub points_on : Rules → Option Tile → ℕ
points_on rules None = 0
points_on rules (Some tile) = points_of rules tile.kind

-- the factor for the points of the tile on a square: the letter premium under a new tile, and 1 under an old one
abbrev pub factor_on : Rules → List Placed → ℕ → ℕ
factor_on rules ps square = if covers ps square then letter_factor (premium_at rules square) else 1

-- what a square adds to a word: the points of its tile, a new tile's times its letter premium
abbrev pub square_points : Rules → List (Option Tile) → List Placed → ℕ → ℕ
square_points rules after ps square = points_on rules (tile_at after square) * factor_on rules ps square

-- the factor of a new tile for a run: its word premium if it lies on the run
abbrev pub factor_in : Rules → Run → Placed → ℕ
factor_in rules run p = if is_on run p.square then word_factor (premium_at rules p.square) else 1

-- the points of a word's letters
unfoldable pub letters_score : Rules → List (Option Tile) → List Placed → Run → ℕ
letters_score rules after ps run =
    sum_by (λ k. square_points rules after ps (along run.dir run.start k)) (range_with_len 0 run.len)

-- the product of the word premiums under the new tiles of a word
unfoldable pub words_factor : Rules → List Placed → Run → ℕ
words_factor rules ps run = product (map (factor_in rules run) ps)

-- what a word scores
abbrev pub run_score : Rules → List (Option Tile) → List Placed → Run → ℕ
run_score rules after ps run = letters_score rules after ps run * words_factor rules ps run

-- the bonus for a play of seven tiles
abbrev pub bonus_score : Rules → List Placed → ℕ
bonus_score rules ps = if length ps == 7 then rules.bonus else 0

-- the sum over the runs that the placement forms, and the bonus
unfoldable pub score_of : Rules → List (Option Tile) → List Placed → ℕ
score_of rules board ps =
    sum_by (run_score rules (with_tiles board ps) ps) (runs_along Across (with_tiles board ps) ps ++ runs_along Down (with_tiles board ps) ps)
    + bonus_score rules ps
