-- Laws: the values of a cross that is right say what any new tile makes across a play.
use Rattle.std.specs.Prelude.{◌≡◌, ◌↔◌, ℕ, ◌+◌, ◌*◌, ◌<◌, ◌==◌, true, false, List, length, All, Option, None, Contains, slice_index_or, if◌then◌else◌}
use Rattle.ref_tiles.specs.declared.rulebook.TheConstants.{SQUARES}
use Rattle.ref_tiles.specs.declared.tiles.Tile.{Tile}
use Rattle.ref_tiles.specs.declared.rulebook.Rules.{Rules}
use Rattle.ref_tiles.specs.Rulebook.{points_of, premium_at, letter_factor, word_factor}
use Rattle.ref_board.specs.declared.directions.Dir.{Dir}
use Rattle.ref_board.specs.Lines.{other_dir}
use Rattle.ref_board.specs.Cells.{tile_at}
use Rattle.ref_play.specs.Crosses.{cross_runs, cross_words, cross_score}
use Rattle.gen_cross.specs.declared.crosses.Cross.{Cross}
use Rattle.gen_cross.specs.Values.{value_at, IsRight}

-- a mask has the letter that a tile shows exactly when the tile's cross words are listed, whether it is a blank or not
abbrev pub MasksGiveWords : Type 0
MasksGiveWords =
    (rules : Rules) (words : List (List ℕ)) (board : List (Option Tile)) (cross : Cross) → length board ≡ SQUARES → IsRight rules words board cross
    → (d : Dir) (square : ℕ) (tile : Tile) → square < SQUARES → tile_at board square ≡ None
    → (slice_index_or (value_at cross d square).mask tile.shown.index false ≡ true) ↔ All (Contains words) (cross_words (other_dir d) board square tile)

-- the score of a tile across a play, from the side score of its square: nothing if it makes no run of two tiles
abbrev pub score_by : Rules → Cross → Dir → List (Option Tile) → ℕ → Tile → ℕ
score_by rules cross d board square tile =
    if length (cross_runs (other_dir d) board square tile) == 0 then 0
    else ((value_at cross d square).side + points_of rules tile.kind * letter_factor (premium_at rules square)) * word_factor (premium_at rules square)

-- and that is the score by the rules
abbrev pub SidesGiveScores : Type 0
SidesGiveScores =
    (rules : Rules) (words : List (List ℕ)) (board : List (Option Tile)) (cross : Cross) → length board ≡ SQUARES → IsRight rules words board cross
    → (d : Dir) (square : ℕ) (tile : Tile) → square < SQUARES → tile_at board square ≡ None
    → cross_score rules (other_dir d) board square tile ≡ score_by rules cross d board square tile
