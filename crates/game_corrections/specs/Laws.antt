-- Laws of corrections.
use Rattle.std.specs.Prelude.{◌≡◌, ◌↔◌, ℕ, List}
use Rattle.ref_tiles.specs.declared.rulebook.Rules.{Rules}
use Rattle.gcg_read.specs.declared.events.Event.{Event}
use Rattle.game_turns.specs.Places.{AreAllowed}
use Rattle.game_corrections.specs.Corrections.{IsCorrection}

-- no sheet has two corrections
abbrev pub OneCorrection : Type 0
OneCorrection =
    (rules : Rules) (list : List (List ℕ)) (written a b : List Event) → IsCorrection rules list written a → IsCorrection rules list written b → a ≡ b

-- the rules allow each event of a sheet exactly when the sheet is its own correction
abbrev pub OwnCorrection : Type 0
OwnCorrection = (rules : Rules) (list : List (List ℕ)) (events : List Event) → AreAllowed rules list events ↔ IsCorrection rules list events events
