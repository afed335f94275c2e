-- The changes at a place, by the game of the corrected record.
use Rattle.std.proofs.Common.{◌≡◌, ℕ, List, map, ap, ◌∙◌}
use Rattle.ref_tiles.specs.declared.rulebook.Rules.{Rules}
use Rattle.gcg_read.specs.declared.events.Event.{Event}
use Rattle.game_turns.specs.Tallies.{State, tally_at}
use Rattle.game_corrections.specs.Corrections.{AreRenumbered}
use Rattle.repair_slips.specs.Changes.{slips_by, change_at, changes_at}
use Rattle.repair_slips.specs.Laws.{SlipsAreByBoard}
use Rattle.repair_single.proofs.Shapes.{same_board, same_out, same_complete}

pub by_correction : SlipsAreByBoard → (rules : Rules) (written right : List Event) (place : ℕ) (s : State) → AreRenumbered written right → s ≡ tally_at rules right place
    → map (change_at place) (slips_by rules s written place) ≡ changes_at rules written place
by_correction law rules written right place s are is =
    ap (λ (t : State). map (change_at place) (slips_by rules t written place)) is
    ∙ ap (map (change_at place))
    (law rules (tally_at rules right place) (tally_at rules written place) written place (same_board rules written right place are) (same_out rules written right place are)
    (same_complete rules written right place are))
