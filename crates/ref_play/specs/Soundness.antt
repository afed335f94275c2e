-- A legal placement, described by one line of the board.
use Rattle.std.specs.Prelude.{◌≡◌, ℕ, List, Option, None, All, Contains}
use Rattle.ref_tiles.specs.declared.tiles.Tile.{Tile}
use Rattle.ref_board.specs.declared.directions.Dir.{Dir}
use Rattle.ref_board.specs.Cells.{tile_at}
use Rattle.ref_board.specs.Anchors.{IsAnchor}
use Rattle.ref_play.specs.declared.placed.Placed.{Placed}
use Rattle.ref_play.specs.declared.runs.Run.{Run}
use Rattle.ref_play.specs.Placements.{with_tiles}
use Rattle.ref_play.specs.Formed.{MeetsRun}
use Rattle.ref_play.specs.Directions.{LiesIn}

-- Its tiles lie on empty squares, all in one whole stretch of a line of the direction; some run is formed; and it covers an anchor.
pub record IsSound (d : Dir) (board : List (Option Tile)) (ps : List Placed) : Type 0 where
  pub free : All (λ (p : Placed). tile_at board p.square ≡ None) ps
  pub line : ℕ
  pub first : ℕ
  pub len : ℕ
  pub lies : LiesIn d (with_tiles board ps) ps line first len
  pub run : (r : Run) × MeetsRun (with_tiles board ps) ps r
  pub anchor : (p : Placed) × Contains ps p × IsAnchor board p.square
