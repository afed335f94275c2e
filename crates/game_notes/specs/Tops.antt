-- The ten best plays.
use Rattle.std.specs.Prelude.{ℕ, List, Option}
use Rattle.ref_tiles.specs.declared.tiles.Tile.{Tile}
use Rattle.ref_tiles.specs.declared.rulebook.Rules.{Rules}
use Rattle.ref_play.specs.Best.{Given}
use Rattle.game_notes.specs.Keeping.{AreFirstPlays}

-- the first ten of all candidates by a rack on a board, in the order of greater score and then of notation
abbrev pub AreTop : Rules → List (List ℕ) → List (Option Tile) → List ℕ → List Given → Type 0
AreTop rules list board rack plays = AreFirstPlays 10 rules list board rack plays
