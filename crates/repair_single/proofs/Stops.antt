-- After the event at which the correction of a record stops no change helps.
use Rattle.std.proofs.Common.{◌≡◌, ℕ, ◌+◌, ◌<◌, List, take, ◌∙◌, subst, arith}
use Rattle.gcg_read.specs.declared.events.Event.{Event}
use Rattle.game_corrections.specs.Corrections.{IsCorrection}
use Rattle.game_corrections.proofs.Fronts.{no_correction}
use Rattle.repair_changes.specs.declared.slips.Change.{Change}
use Rattle.repair_changes.specs.Applied.{applied}
use Rattle.repair_changes.proofs.Fronts.{front_stays}
use Rattle.repair_single.specs.Laws.{NoneAfterStop}
use Rattle.repair_single.proofs.Lists.{get_take, same_take}
use Rattle.repair_single.proofs.Fronts.{front_fault, front_renumbered, front_points, front_correction, front_allowed}

-- the events up to a place before a change
pub same_front : (change : Change) (written : List Event) (place : ℕ) → place < change.place → take (place + 1) (applied change written) ≡ take (place + 1) written
same_front change written place before =
    same_take (applied change written) written (place + 1) (λ j below. front_stays change written j (omega (arith, before, below)))

pub none_after_stop : NoneAfterStop
none_after_stop rules list written right line why stops change before other is =
    let p = stops.place in
    let n = p + 1 in
    let corrected : IsCorrection rules list (take n written) (take n other) =
    subst (λ (events : List Event). IsCorrection rules list events (take n other)) (same_front change written p before)
    (front_correction rules list (applied change written) other n is.correction) in
    no_correction rules list (take n written) (take n right) (take n other) p stops.event why (front_renumbered written right n stops.before.renumbered)
    (front_allowed rules list right n p (omega arith) stops.before.allowed) (get_take right n p (omega arith) ∙ stops.stands)
    (front_fault rules list right n p (omega arith) ∙ stops.fails) stops.remaining (front_points other n is.points) corrected
