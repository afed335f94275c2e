-- Plays that a sink of the best plays need not see.
use Rattle.std.specs.Prelude.{◌≡◌, ℕ, ℤ, ◌<◌, ◌<ℤ◌, ◌⊎◌, List, length, slice_index_or, Option, Some, None}
use Rattle.ref_tiles.specs.declared.tiles.Tile.{Tile}
use Rattle.ref_board.specs.declared.directions.Dir.TheVariants.{Across, Down}
use Rattle.ref_play.specs.declared.plays.Play.{Play}
use Rattle.ref_play.specs.Notations.{notation_of}
use Rattle.ref_play.specs.Best.{Given}

-- each of some plays scores more than a bound
abbrev pub AllAbove : ℤ → List (Play × ℤ) → Type 0
AllAbove bound kept = (place : ℕ) (d : Play × ℤ) → place < length kept → bound <ℤ (slice_index_or kept place d).1

-- a play is written down on the board for which a sink was made
abbrev pub GoesDown : Option (List (Option Tile)) → Given → Type 0
GoesDown None given = Unit {0}
GoesDown (Some board) given = (notation_of board given.tiles).dir ≡ Down

-- a play scores more than a bound, or scores as much and is written across
abbrev pub IsBeforeDown : List (Option Tile) → ℤ → Play × ℤ → Type 0
IsBeforeDown board bound scored = (bound <ℤ scored.1) ⊎ ((scored.1 ≡ bound) × ((notation_of board scored.0.tiles.items).dir ≡ Across))

-- each of some plays does
abbrev pub AllBeforeDown : List (Option Tile) → ℤ → List (Play × ℤ) → Type 0
AllBeforeDown board bound kept = (place : ℕ) (d : Play × ℤ) → place < length kept → IsBeforeDown board bound (slice_index_or kept place d)
