-- The best plays that were found latest.
use Rattle.std.specs.Prelude.{ℕ, List, IfSome, option_map}
use Rattle.ref_tiles.specs.declared.rulebook.Rules.{Rules}
use Rattle.ref_play.specs.Best.{IsAnnotation}
use Rattle.gen_sinks.specs.Sinks.{seen_pair}
use Rattle.game_notes.specs.declared.latest.FoundBest.{FoundBest}
use Rattle.game_notes.specs.declared.latest.LatestBests.{LatestBests}

-- what was found for a board and a rack is the best candidate by that rack on that board, or that there is none
abbrev pub IsFound : Rules → (list : List (List ℕ)) → FoundBest → Type 0
IsFound rules list found = IsAnnotation rules list found.board found.rack (option_map seen_pair found.best)

-- all that is kept was found
pub record AreBests (rules : Rules) (list : List (List ℕ)) (latest : LatestBests) : Type 0 where
  pub newer : IfSome latest.newer (IsFound rules list)
  pub older : IfSome latest.older (IsFound rules list)
