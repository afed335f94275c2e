-- Along which line a placement runs, and in which direction it is written.
use Rattle.std.specs.Prelude.{◌≡◌, ℕ, ◌+◌, ◌<◌, ◌≤◌, ◌==◌, ◌&&◌, not, nat_le, Bool, true, false, List, [], ◌∷◌, length, Option, Contains, if◌then◌else◌}
use Rattle.ref_tiles.specs.declared.tiles.Tile.{Tile}
use Rattle.ref_board.specs.declared.directions.Dir.{Dir}
use Rattle.ref_board.specs.declared.directions.Dir.TheVariants.{Across, Down}
use Rattle.ref_board.specs.Lines.{line_of, place_of}
use Rattle.ref_board.specs.Cells.{occupied_on}
use Rattle.ref_board.specs.Runs.{IsWhole}
use Rattle.ref_play.specs.declared.placed.Placed.{Placed}
use Rattle.ref_play.specs.Placements.{is_play, with_tiles, are_in_line}
use Rattle.ref_play.specs.Formed.{run_of, runs_along}

-- The direction in which a placement is written: across if it lies in one row and forms a run of two tiles or more along it,
-- otherwise down. So two tiles or more are written along their line, and a lone tile is written across if its run across has two
-- tiles.
abbrev pub direction_of : List (Option Tile) → List Placed → Dir
direction_of board ps = if are_in_line Across ps && not (length (runs_along Across (with_tiles board ps) ps) == 0) then Across else Down

-- whether two directions are the same
abbrev pub same_dir : Dir → Dir → Bool
same_dir Across Across = true
same_dir Across Down = false
same_dir Down Across = false
same_dir Down Down = true

-- whether a placement is written in this direction, and has seven tiles at most
abbrev pub is_wanted : List (Option Tile) → Dir → List Placed → Bool
is_wanted board d ps = same_dir (direction_of board ps) d && nat_le (length ps) 7

-- the tiles of a placement lie on one line of the direction, in one whole stretch of it
pub record LiesIn (d : Dir) (after : List (Option Tile)) (ps : List Placed) (line first len : ℕ) : Type 0 where
  pub whole : IsWhole (occupied_on d after line) first len
  pub lines : (p : Placed) → Contains ps p → line_of d p.square ≡ line
  pub low : (p : Placed) → Contains ps p → first ≤ place_of d p.square
  pub high : (p : Placed) → Contains ps p → place_of d p.square < first + len

-- a play of a direction, and its run along it: the one whole stretch of the line in which all its tiles lie
pub record RunsAlong (d : Dir) (board : List (Option Tile)) (ps : List Placed) : Type 0 where
  pub play : is_play d ps ≡ true
  pub line : ℕ
  pub first : ℕ
  pub len : ℕ
  pub below : line < 15
  pub long : 2 ≤ len
  pub lies : LiesIn d (with_tiles board ps) ps line first len
  pub runs : runs_along d (with_tiles board ps) ps ≡ run_of d line (first, len) ∷ []
