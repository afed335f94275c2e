-- Changes of a board: a tile put on an empty square, the tile of a square lifted, or the tiles of a play put or lifted.
use Rattle.std.specs.Prelude.{◌≡◌, ℕ, ◌<◌, ◌≤◌, true, false, List, length, Option, Some, None, Contains}
use Rattle.ref_tiles.specs.declared.rulebook.TheConstants.{SIDE}
use Rattle.ref_tiles.specs.declared.tiles.Tile.{Tile}
use Rattle.ref_board.specs.declared.directions.Dir.{Dir}
use Rattle.ref_board.specs.Lines.{line_of, place_of, square_at, other_dir}
use Rattle.ref_board.specs.Cells.{tile_at, holds, with_tile}
use Rattle.ref_play.specs.declared.placed.Placed.{Placed}
use Rattle.ref_play.specs.Placements.{covers}
use Rattle.gen_cross.specs.declared.stretches.Stretch.{Stretch}

-- a board is what another becomes when a tile is put on an empty square
pub record IsPut (square : ℕ) (before after : List (Option Tile)) : Type 0 where
  pub free : tile_at before square ≡ None
  pub tile : Tile
  pub put : after ≡ with_tile before square (Some tile)

-- a board is what another becomes when the tile of a square is lifted
pub record IsLifted (square : ℕ) (before after : List (Option Tile)) : Type 0 where
  pub held : holds before square ≡ true
  pub lifted : after ≡ with_tile before square None

-- two boards agree on all squares but those of a placement, as before and after its tiles are put or lifted
pub record DifferOn (ps : List Placed) (before after : List (Option Tile)) : Type 0 where
  pub size : length before ≡ length after
  pub same : (square : ℕ) → covers ps square ≡ false → tile_at before square ≡ tile_at after square

-- the square at a place of the line across a play through a square
abbrev pub crossing : Dir → ℕ → ℕ → ℕ
crossing d square place = square_at (other_dir d) (line_of (other_dir d) square) place

-- two boards have the same tiles across a play through a square, except for one square
abbrev pub AgreeBut : Dir → ℕ → ℕ → List (Option Tile) → List (Option Tile) → Type 0
AgreeBut d changed square a b =
    (place : ℕ) → place < SIDE → (crossing d square place ≡ changed → ⊥) → tile_at a (crossing d square place) ≡ tile_at b (crossing d square place)

-- the same, except for the places of a line from one up to just before another
abbrev pub AgreeOff : Dir → ℕ → ℕ → ℕ → ℕ → List (Option Tile) → List (Option Tile) → Type 0
AgreeOff d line first end square a b =
    (place : ℕ) → place < SIDE → (line_of (other_dir d) square ≡ line → first ≤ place → place < end → ⊥)
    → tile_at a (crossing d square place) ≡ tile_at b (crossing d square place)

-- the tiles of a placement lie on a stretch of a line
abbrev pub AreWithin : List Placed → Stretch → Type 0
AreWithin ps stretch =
    (q : Placed) → Contains ps q
    → (line_of stretch.dir q.square ≡ stretch.line) × (stretch.first ≤ place_of stretch.dir q.square) × (place_of stretch.dir q.square < stretch.end)
