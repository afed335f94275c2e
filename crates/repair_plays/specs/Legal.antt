-- Plays that are legal on a board.
use Rattle.std.specs.Prelude.{ℤ, List, All, Option}
use Rattle.ref_tiles.specs.declared.tiles.Tile.{Tile}
use Rattle.ref_play.specs.declared.plays.Play.{Play}
use Rattle.ref_play.specs.Best.{Given}
use Rattle.ref_play.specs.Legality.{IsLegal}

-- plays with their scores, as they are seen, each legal on a board
abbrev pub AreGivenLegal : List (Option Tile) → List Given → Type 0
AreGivenLegal board given = All (λ (g : Given). IsLegal board g.tiles) given

-- the same for plays with their scores
abbrev pub AreLegal : List (Option Tile) → List (Play × ℤ) → Type 0
AreLegal board plays = All (λ (scored : Play × ℤ). IsLegal board scored.0.tiles.items) plays
