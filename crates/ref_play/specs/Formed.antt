-- The runs that a placement forms: the maximal stretches of two tiles or more, across and down, that hold a new tile.
use Rattle.std.specs.Prelude.{◌≡◌, ℕ, ◌+◌, ◌-◌, ◌*◌, ◌<◌, ◌≤◌, ◌==◌, ◌&&◌, ◌||◌, not, Bool, true, List, ◌++◌, map, filter, Option, nat_lt, nat_le}
use Rattle.std.specs.List.{list_any, list_all, flat_map, range_with_len}
use Rattle.ref_tiles.specs.declared.tiles.Tile.{Tile}
use Rattle.ref_board.specs.declared.directions.Dir.{Dir}
use Rattle.ref_board.specs.declared.directions.Dir.TheVariants.{Across, Down}
use Rattle.ref_board.specs.Lines.{line_of, place_of, square_at, other_dir}
use Rattle.ref_board.specs.Cells.{occupied_on}
use Rattle.ref_board.specs.Runs.{IsWhole}
use Rattle.ref_play.specs.declared.placed.Placed.{Placed}
use Rattle.ref_play.specs.declared.runs.Run.{Run}
use Rattle.ref_play.specs.Placements.{fresh_on}

-- the square `k` places further on its line
abbrev pub along : Dir → ℕ → ℕ → ℕ
along Across square k = square + k
along Down square k = square + 15 * k

-- whether a stretch of a line is maximal
abbrev pub is_whole : (ℕ → Bool) → ℕ → ℕ → Bool
is_whole occupied first len =
    nat_le (first + len) 15 && list_all occupied (range_with_len first len)
    && (first == 0 || not (occupied (first - 1))) && (first + len == 15 || not (occupied (first + len)))

-- whether it is maximal and holds a new tile
abbrev pub is_formed : (ℕ → Bool) → (ℕ → Bool) → ℕ → ℕ → Bool
is_formed occupied fresh first len = is_whole occupied first len && list_any fresh (range_with_len first len)

-- the stretches of one line that a placement forms, each as its first place and the number of its tiles, 2 to 15
unfoldable pub stretches_on : (ℕ → Bool) → (ℕ → Bool) → List (ℕ × ℕ)
stretches_on occupied fresh =
    flat_map (λ first. map (λ len. (first, len)) (filter (is_formed occupied fresh first) (range_with_len 2 14))) (range_with_len 0 15)

abbrev pub run_of : Dir → ℕ → ℕ × ℕ → Run
run_of d line stretch = record { start = square_at d line stretch.0; dir = d; len = stretch.1 }

-- the runs of one line
abbrev pub runs_of_line : Dir → List (Option Tile) → (ℕ → Bool) → ℕ → List Run
runs_of_line d after fresh line = map (run_of d line) (stretches_on (occupied_on d after line) fresh)

-- the runs in one direction, line by line; `after` is the board with the tiles of the placement
unfoldable pub runs_along : Dir → List (Option Tile) → List Placed → List Run
runs_along d after ps = flat_map (λ line. runs_of_line d after (fresh_on d ps line) line) (range_with_len 0 15)

-- all runs, those of the direction first
abbrev pub runs_formed : Dir → List (Option Tile) → List Placed → List Run
runs_formed d after ps = runs_along d after ps ++ runs_along (other_dir d) after ps

-- the run of a line that holds one square, if it has two tiles
abbrev pub runs_through : Dir → List (Option Tile) → ℕ → List Run
runs_through d after square = runs_of_line d after (λ place. place == place_of d square) (line_of d square)

-- A run of a board, in the words of the rules: a maximal stretch of at least two tiles in one row or one column.
pub record IsRun (board : List (Option Tile)) (run : Run) : Type 0 where
  pub on_board : run.start < 225
  pub long : 2 ≤ run.len
  pub whole : IsWhole (occupied_on run.dir board (line_of run.dir run.start)) (place_of run.dir run.start) run.len

-- whether a square is on the run
abbrev pub is_on : Run → ℕ → Bool
is_on run square =
    line_of run.dir square == line_of run.dir run.start && nat_le (place_of run.dir run.start) (place_of run.dir square)
    && nat_lt (place_of run.dir square) (place_of run.dir run.start + run.len)

-- a run of the board that holds a tile of the placement
pub record MeetsRun (after : List (Option Tile)) (ps : List Placed) (run : Run) : Type 0 where
  pub is_run : IsRun after run
  pub meets : list_any (λ (p : Placed). is_on run p.square) ps ≡ true
