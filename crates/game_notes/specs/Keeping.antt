-- The best plays of a board.
use Rattle.std.specs.Prelude.{ℕ, List, Option}
use Rattle.ref_tiles.specs.declared.tiles.Tile.{Tile}
use Rattle.ref_tiles.specs.declared.rulebook.Rules.{Rules}
use Rattle.ref_play.specs.Best.{Given, AreAll}
use Rattle.gen_sinks.specs.Ranks.{ranks_before, AreFirst}

-- The first `n` of all candidates by a rack on a board, in the order of greater score and then of notation: all of them
-- if there are fewer.
pub record AreFirstPlays (n : ℕ) (rules : Rules) (words : List (List ℕ)) (board : List (Option Tile)) (rack : List ℕ) (plays : List Given) : Type 0 where
  pub all : List Given
  pub are_all : AreAll rules words board rack all
  pub first : AreFirst n (ranks_before board) all plays
