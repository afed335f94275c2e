-- The words of a play, each with its squares and its score.
use Rattle.std.specs.Prelude.{ℕ, ◌*◌, List, map, Option, if◌then◌else◌}
use Rattle.std.specs.List.{range_with_len}
use Rattle.ref_tiles.specs.declared.tiles.Tile.{Tile}
use Rattle.ref_tiles.specs.declared.premiums.Premium.{Premium}
use Rattle.ref_tiles.specs.declared.premiums.Premium.TheVariants as premium
use Rattle.ref_tiles.specs.declared.rulebook.Rules.{Rules}
use Rattle.ref_tiles.specs.Rulebook.{premium_at, letter_factor}
use Rattle.ref_board.specs.declared.directions.Dir.{Dir}
use Rattle.ref_board.specs.Cells.{tile_at}
use Rattle.ref_play.specs.declared.placed.Placed.{Placed}
use Rattle.ref_play.specs.declared.runs.Run.{Run}
use Rattle.ref_play.specs.Placements.{with_tiles, covers}
use Rattle.ref_play.specs.Formed.{along, runs_formed}
use Rattle.ref_play.specs.Scores.{points_on, words_factor, run_score}
use Rattle.explain_clues.specs.declared.words.WordSquare.{WordSquare}
use Rattle.explain_clues.specs.declared.words.ScoredWord.{ScoredWord}

-- the premium that counts on a square: that of the square under a new tile, and none under an old one
abbrev pub premium_under : Rules → List Placed → (square : ℕ) → Premium
premium_under rules ps square = if covers ps square then premium_at rules square else premium.Plain

-- a square of a word: its tile, whether the play puts it there, the tile's points, and the premium that counts
abbrev pub word_square : Rules → (after : List (Option Tile)) → List Placed → (square : ℕ) → WordSquare
word_square rules after ps square =
    record { square = square; cell = tile_at after square; is_new = covers ps square; points = points_on rules (tile_at after square); premium = premium_under rules ps square }

-- the squares of a run, in its order
unfoldable pub squares_on : Rules → (after : List (Option Tile)) → List Placed → Run → List WordSquare
squares_on rules after ps run = map (λ k. word_square rules after ps (along run.dir run.start k)) (range_with_len 0 run.len)

-- a word with its score: its run, its squares, the product of its word premiums, and its score
pub record WordSum : Type 0 where
  pub run : Run
  pub squares : List WordSquare
  pub factor : ℕ
  pub score : ℕ

abbrev pub word_sum : Rules → (after : List (Option Tile)) → List Placed → Run → WordSum
word_sum rules after ps run =
    record { run = run; squares = squares_on rules after ps run; factor = words_factor rules ps run; score = run_score rules after ps run }

-- what contracts see of a scored word
abbrev pub sum_in : ScoredWord → WordSum
sum_in w = record { run = w.run; squares = w.squares.items; factor = w.factor; score = w.score }

-- the words of a play: that of its direction first, and then the cross words
unfoldable pub word_sums : Rules → Dir → (board : List (Option Tile)) → List Placed → List WordSum
word_sums rules d board ps = map (word_sum rules (with_tiles board ps) ps) (runs_formed d (with_tiles board ps) ps)

-- what a square adds to a word: its points, times its letter premium
abbrev pub worth : WordSquare → ℕ
worth s = s.points * letter_factor s.premium
