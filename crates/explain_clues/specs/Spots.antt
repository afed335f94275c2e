-- Where on a board a text can be played for a score.
use Rattle.std.specs.Prelude.{ℕ, ℤ, ◌&&◌, Bool, List, ◌++◌, map, filter, Option, is_none}
use Rattle.std.specs.List.{range_with_len}
use Rattle.std.specs.Ordering.{int_eq}
use Rattle.ref_tiles.specs.declared.tiles.Tile.{Tile}
use Rattle.ref_tiles.specs.declared.symbols.Symbol.{Symbol}
use Rattle.ref_tiles.specs.declared.rulebook.Rules.{Rules}
use Rattle.ref_board.specs.declared.directions.Dir.{Dir}
use Rattle.ref_board.specs.declared.directions.Dir.TheVariants.{Across, Down}
use Rattle.game_turns.specs.Checks.{play_fault, text_score}
use Rattle.explain_clues.specs.declared.spots.Spot.{Spot}

-- whether a text is a legal play at a spot, with this score
unfoldable pub scores_at : Rules → (board : List (Option Tile)) → List Symbol → (score : ℤ) → Spot → Bool
scores_at rules board word score spot =
    is_none (play_fault board spot.dir spot.at word) && int_eq (text_score rules board spot.dir spot.at word) score

-- the first spots of a direction, row by row from 1A
abbrev pub spots_along : Dir → (many : ℕ) → List Spot
spots_along d many = map (λ k. record { dir = d; at = k }) (range_with_len 0 many)

-- those of them at which the text is such a play
unfoldable pub scoring_along : Rules → (board : List (Option Tile)) → List Symbol → (score : ℤ) → Dir → (many : ℕ) → List Spot
scoring_along rules board word score d many = filter (scores_at rules board word score) (spots_along d many)

-- all spots at which a text is a legal play with this score: across before down, row by row
abbrev pub scoring_spots : Rules → (board : List (Option Tile)) → List Symbol → (score : ℤ) → List Spot
scoring_spots rules board word score = scoring_along rules board word score Across 225 ++ scoring_along rules board word score Down 225
