-- A board beside a game.
use Rattle.std.specs.Prelude.{ℕ, List}
use Rattle.ref_tiles.specs.declared.rulebook.Rules.{Rules}
use Rattle.game_notes.specs.Following.{Follows}
use Rattle.game_known.specs.declared.besides.Beside.{Beside}

-- its cross-sets are right for its board, by rules and a list of words
abbrev pub IsBeside : Rules → (list : List (List ℕ)) → Beside → Type 0
IsBeside rules list beside = Follows rules list beside.follow
