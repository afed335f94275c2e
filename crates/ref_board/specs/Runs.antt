-- Runs: the maximal stretches of tiles.
use Rattle.std.specs.Prelude.{◌≡◌, ℕ, ◌+◌, ◌-◌, ◌<◌, ◌≤◌, Bool, true, false, List, Option}
use Rattle.ref_tiles.specs.declared.tiles.Tile.{Tile}
use Rattle.ref_board.specs.declared.directions.Dir.{Dir}
use Rattle.ref_board.specs.Lines.{line_of, place_of}
use Rattle.ref_board.specs.Cells.{occupied_on}

-- A maximal stretch of one line: each of its places has a tile, and the places directly before and after it
-- are off the line or have none.
pub record IsWhole (occupied : ℕ → Bool) (first len : ℕ) : Type 0 where
  pub inside : first + len ≤ 15
  pub filled : (place : ℕ) → first ≤ place → place < first + len → occupied place ≡ true
  pub before : 0 < first → occupied (first - 1) ≡ false
  pub after : first + len < 15 → occupied (first + len) ≡ false

-- the maximal stretch through a square: its first square and the number of its tiles
pub record IsRunThrough (board : List (Option Tile)) (d : Dir) (square start len : ℕ) : Type 0 where
  pub same_line : line_of d start ≡ line_of d square
  pub not_after : place_of d start ≤ place_of d square
  pub reaches : place_of d square < place_of d start + len
  pub whole : IsWhole (occupied_on d board (line_of d square)) (place_of d start) len

-- from `first` to just before `place` each place has a tile, and the one before `first` is off the line or has none
pub record IsFirstBack (occupied : ℕ → Bool) (place first : ℕ) : Type 0 where
  pub not_after : first ≤ place
  pub filled : (k : ℕ) → first ≤ k → k < place → occupied k ≡ true
  pub before : 0 < first → occupied (first - 1) ≡ false

-- after `place` each place up to just before `end` has a tile, and `end` is off the line or has none
pub record IsEndOn (occupied : ℕ → Bool) (place end : ℕ) : Type 0 where
  pub following : place < end
  pub inside : end ≤ 15
  pub filled : (k : ℕ) → place < k → k < end → occupied k ≡ true
  pub after : end < 15 → occupied end ≡ false
