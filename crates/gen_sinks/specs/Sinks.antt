-- What a sink takes, and what it then has.
use Rattle.std.specs.Prelude.{◌≡◌, ℤ, List, [], ◌∷◌, ◌++◌, Option, Some, None}
use Rattle.ref_tiles.specs.declared.tiles.Tile.{Tile}
use Rattle.ref_play.specs.declared.placed.Placed.{Placed}
use Rattle.ref_play.specs.declared.plays.Play.{Play}
use Rattle.ref_play.specs.Legality.{IsLegal}
use Rattle.ref_play.specs.Best.{Given}

-- a play with its score, as it is seen
abbrev pub seen : Play → ℤ → Given
seen play score = record { dir = play.dir; tiles = play.tiles.items; score = score }

abbrev pub seen_pair : Play × ℤ → Given
seen_pair p = seen p.0 p.1

-- a sink that was made for a board takes the plays that are legal on it; one that was made for none takes any
abbrev pub CanTake : Option (List (Option Tile)) → List Placed → Type 0
CanTake None ps = Unit {0}
CanTake (Some board) ps = IsLegal board ps

-- a sink takes the plays of a board: it was made for this board, or for none
abbrev pub IsFor : Option (List (Option Tile)) → List (Option Tile) → Type 0
IsFor None board = Unit {0}
IsFor (Some own) board = own ≡ board

-- a list with one more play, at its end
abbrev pub add_last : Option (List (Option Tile)) → List Given → Given → List Given
add_last board kept given = kept ++ given ∷ []
