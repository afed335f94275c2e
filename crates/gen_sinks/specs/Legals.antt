-- Plays that are kept and are legal on a board.
use Rattle.std.specs.Prelude.{ℤ, Bool, List, Option, is_none}
use Rattle.std.specs.List.{list_all}
use Rattle.ref_tiles.specs.declared.tiles.Tile.{Tile}
use Rattle.ref_play.specs.declared.plays.Play.{Play}
use Rattle.ref_play.specs.Legality.{fault_of}

-- whether none of these plays has a fault on the board
unfoldable pub are_legal : List (Option Tile) → List (Play × ℤ) → Bool
are_legal board kept = list_all (λ (scored : Play × ℤ). is_none (fault_of scored.0.dir board scored.0.tiles.items)) kept
