-- What makes a placement legal, and the first fault of one that is not.
use Rattle.std.specs.Prelude.{◌≡◌, ℕ, ◌-◌, ◌<◌, ◌==◌, ◌&&◌, Bool, true, false, List, [], ◌∷◌, Option, None, All, length, is_none, ◌⊎◌, Contains, not}
use Rattle.std.specs.List.{list_any, list_all, range_with_len}
use Rattle.first_faults.specs.Checks.{fails, first_fault}
use Rattle.ref_tiles.specs.declared.tiles.Tile.{Tile}
use Rattle.ref_board.specs.declared.directions.Dir.{Dir}
use Rattle.ref_board.specs.declared.directions.Dir.TheVariants.{Across, Down}
use Rattle.ref_board.specs.Lines.{line_of, place_of, square_at}
use Rattle.ref_board.specs.Cells.{tile_at, holds, HasNoTile, occupied_on}
use Rattle.ref_board.specs.Anchors.{centre, AreBeside, touches}
use Rattle.ref_play.specs.declared.placed.Placed.{Placed}
use Rattle.ref_play.specs.declared.runs.Run.{Run}
use Rattle.ref_play.specs.declared.faults.PlayFault.{PlayFault}
use Rattle.ref_play.specs.declared.faults.PlayFault.TheVariants as fault
use Rattle.ref_play.specs.Placements.{is_play, with_tiles, covers, are_in_line}
use Rattle.ref_play.specs.Formed.{MeetsRun, runs_formed}

-- each square between two tiles of the placement on one line has a tile
abbrev pub HasNoGap : List (Option Tile) → List Placed → Type 0
HasNoGap after ps =
    (d : Dir) (p q : Placed) (place : ℕ) → are_in_line d ps ≡ true → Contains ps p → Contains ps q → place_of d p.square < place → place < place_of d q.square
    → holds after (square_at d (line_of d p.square) place) ≡ true

-- a play without a gap, on the board with its tiles
pub record IsLaid (d : Dir) (after : List (Option Tile)) (ps : List Placed) : Type 0 where
  pub play : is_play d ps ≡ true
  pub filled : (q : Placed) → Contains ps q → holds after q.square ≡ true
  pub no_gap : HasNoGap after ps

-- A legal placement, by the WESPA rules: its squares are empty, lie in one row or one column with no empty square
-- between them, and form a run; on an empty board it covers the centre, on any other some new tile is orthogonally
-- beside an old one.
pub record IsLegal (board : List (Option Tile)) (ps : List Placed) : Type 0 where
  pub on_empty : All (λ (p : Placed). tile_at board p.square ≡ None) ps
  pub in_line : (are_in_line Across ps ≡ true) ⊎ (are_in_line Down ps ≡ true)
  pub no_gap : HasNoGap (with_tiles board ps) ps
  pub forms_run : (run : Run) × MeetsRun (with_tiles board ps) ps run
  pub anchored : (HasNoTile board × (covers ps centre ≡ true))
      ⊎ ((p : Placed) × (square : ℕ) × Contains ps p × AreBeside p.square square × (holds board square ≡ true))

-- the square of the last tile of a placement that begins with p
abbrev pub last_square : Placed → List Placed → ℕ
last_square p [] = p.square
last_square p (q ∷ ps) = last_square q ps

-- The tests of the faults, one for each.
unfoldable pub overlaps : List (Option Tile) → List Placed → Bool
overlaps board ps = list_any (λ p. holds board p.square) ps

unfoldable pub has_gap : Dir → List (Option Tile) → List Placed → Bool
has_gap d after [] = false
has_gap d after (p ∷ ps) =
    not (list_all (occupied_on d after (line_of d p.square)) (range_with_len (place_of d p.square) (place_of d (last_square p ps) - place_of d p.square)))

unfoldable pub has_no_tile : List (Option Tile) → Bool
has_no_tile board = list_all is_none board

unfoldable pub misses_centre : List (Option Tile) → List Placed → Bool
misses_centre board ps = has_no_tile board && not (covers ps centre)

unfoldable pub is_too_short : Dir → List (Option Tile) → List Placed → Bool
is_too_short d after ps = length (runs_formed d after ps) == 0

unfoldable pub is_apart : List (Option Tile) → List Placed → Bool
is_apart board ps = not (has_no_tile board) && not (list_any (λ p. touches board p.square) ps)

-- the first fault of a placement of this direction; none if it is legal
unfoldable pub fault_of : Dir → List (Option Tile) → List Placed → Option PlayFault
fault_of d board ps =
    first_fault (
    fails (overlaps board ps) fault.Mismatch
    ∷ fails (has_gap d (with_tiles board ps) ps) fault.NotWhole
    ∷ fails (misses_centre board ps) fault.MissesCentre
    ∷ fails (is_too_short d (with_tiles board ps) ps) fault.TooShort
    ∷ fails (is_apart board ps) fault.Apart
    ∷ [])
