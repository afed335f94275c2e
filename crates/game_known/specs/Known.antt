-- Best plays that are known.
use Rattle.std.specs.Prelude.{ℕ, pos, List, All, Option, IfSome}
use Rattle.ref_tiles.specs.declared.rulebook.Rules.{Rules}
use Rattle.game_bests.specs.Bests.{IsBestBy}
use Rattle.game_known.specs.declared.known.KnownBest.{KnownBest}
use Rattle.game_known.specs.declared.known.KnownBests.{KnownBests}

-- What is kept for a board and a rack is the best candidate by that rack on that board, as it is said of a turn that gave nothing, or that there is
-- none.
abbrev pub IsKnown : Rules → (list : List (List ℕ)) → KnownBest → Type 0
IsKnown rules list kept = IsBestBy rules list kept.board kept.rack (pos 0) kept.best

-- all that a table keeps is known
pub record AreKnown (rules : Rules) (list : List (List ℕ)) (known : KnownBests) : Type 0 where
  pub each : All (λ (place : Option KnownBest). IfSome place (IsKnown rules list)) known.places.items
