-- What a new tile on an empty square does across the play: the cross word and its score, which depend only on the board and the tile.
use Rattle.std.specs.Prelude.{ℕ, ◌+◌, ◌*◌, List, [], ◌∷◌, map, sum_by, nat_le, Option, Some, if◌then◌else◌}
use Rattle.std.specs.List.{range_with_len}
use Rattle.ref_tiles.specs.declared.tiles.Tile.{Tile}
use Rattle.ref_tiles.specs.declared.rulebook.Rules.{Rules}
use Rattle.ref_tiles.specs.Rulebook.{points_of, premium_at, letter_factor, word_factor}
use Rattle.ref_board.specs.declared.directions.Dir.{Dir}
use Rattle.ref_board.specs.Cells.{tile_at, with_tile}
use Rattle.ref_play.specs.declared.runs.Run.{Run}
use Rattle.ref_play.specs.Formed.{along, run_of, runs_through}
use Rattle.ref_play.specs.Words.{letters_of}
use Rattle.ref_play.specs.Scores.{points_on}

-- the run of a stretch of a line: none if it has fewer than two tiles
abbrev pub run_in : Dir → ℕ → ℕ → ℕ → List Run
run_in d line first len = if nat_le 2 len then run_of d line (first, len) ∷ [] else []

-- the run of two tiles or more through a square in a direction, once a tile lies there; none, or one
abbrev pub cross_runs : Dir → List (Option Tile) → ℕ → Tile → List Run
cross_runs e board square tile = runs_through e (with_tile board square (Some tile)) square

-- the words of these runs
abbrev pub cross_words : Dir → List (Option Tile) → ℕ → Tile → List (List ℕ)
cross_words e board square tile = map (letters_of (with_tile board square (Some tile))) (cross_runs e board square tile)

-- the points of the old tiles of a run
abbrev pub old_points : Rules → List (Option Tile) → Run → ℕ
old_points rules board run = sum_by (λ k. points_on rules (tile_at board (along run.dir run.start k))) (range_with_len 0 run.len)

-- what a cross run scores
abbrev pub cross_score : Rules → Dir → List (Option Tile) → ℕ → Tile → ℕ
cross_score rules e board square tile =
    sum_by (λ run. (old_points rules board run + points_of rules tile.kind * letter_factor (premium_at rules square)) * word_factor (premium_at rules square))
    (cross_runs e board square tile)
