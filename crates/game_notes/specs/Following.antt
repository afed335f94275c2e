-- A board and its cross-sets that follow a game.
use Rattle.std.specs.Prelude.{ℕ, List, Option}
use Rattle.ref_tiles.specs.declared.tiles.Tile.{Tile}
use Rattle.ref_tiles.specs.declared.rulebook.Rules.{Rules}
use Rattle.gen_cross.specs.declared.crosses.Cross.{Cross}
use Rattle.gen_cross.specs.Values.{IsRight}
use Rattle.game_notes.specs.declared.following.Follow.{Follow}

-- the board
abbrev pub board_of : Follow → List (Option Tile)
board_of follow = follow.board

-- its cross-sets
abbrev pub cross_of : Follow → Cross
cross_of follow = follow.cross

-- the cross-sets are right for the board, by rules and a list of words
abbrev pub Follows : Rules → List (List ℕ) → Follow → Type 0
Follows rules words follow = IsRight rules words (board_of follow) (cross_of follow)
