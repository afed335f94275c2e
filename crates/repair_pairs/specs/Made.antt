-- The record that a first change makes.
use Rattle.std.specs.Prelude.{◌≡◌, ℕ, ◌+◌, List}
use Rattle.ref_tiles.specs.declared.rulebook.Rules.{Rules}
use Rattle.gcg_read.specs.declared.events.Event.{Event}
use Rattle.game_turns.specs.Places.{AreAllowedTo}
use Rattle.game_corrections.specs.Corrections.{AreRenumbered}
use Rattle.repair_changes.specs.declared.slips.Change.{Change}
use Rattle.repair_changes.specs.Applied.{applied, lines_there}
use Rattle.repair_single.specs.OnSheet.{on_sheet}

-- The record that a change makes, with the numbers of the sheet. Once they are corrected, the rules allow it up to the lines of the change. A missing line
-- gets its right score and the total that goes with it, so that numbers that nobody wrote do not count as wrong.
pub record IsMade (rules : Rules) (list : List (List ℕ)) (written : List Event) (change : Change) (made : List Event) : Type 0 where
  pub right : List Event
  pub renumbered : AreRenumbered (applied change written) right
  pub allowed : AreAllowedTo rules list right (change.place + lines_there change.slip)
  pub sheet : made ≡ on_sheet change (applied change written) right
