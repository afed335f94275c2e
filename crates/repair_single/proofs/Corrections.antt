-- The correction of a record, event by event.
use Rattle.std.proofs.Common.{◌≡◌, ℕ, List, length, sym, ◌∙◌, subst, arith}
use Rattle.ref_tiles.specs.declared.rulebook.Rules.{Rules}
use Rattle.gcg_read.specs.declared.events.Event.{Event}
use Rattle.game_turns.specs.declared.machine.Machine.{Machine}
use Rattle.game_turns.specs.Machines.{rules_of, state_of}
use Rattle.game_turns.specs.Tallies.{tally_at}
use Rattle.game_corrections.specs.Corrections.{IsCorrection}
use Rattle.game_corrections.proofs.Fronts.{all_themselves}
use Rattle.game_corrections.proofs.Sheets.{whole}
use Rattle.repair_single.specs.Trying.{StandsBefore}
use Rattle.repair_single.proofs.Lists.{same_items, same_take}
use Rattle.repair_single.proofs.Trials.{GoesTo}

pub stands_first : (rules : Rules) (list : List (List ℕ)) (events : List Event) (machine : Machine) → rules_of machine ≡ rules → state_of machine ≡ tally_at rules events 0
    → StandsBefore rules list events 0 machine
stands_first rules list events machine by state =
    record { front = events; renumbered = all_themselves events; allowed = λ k below. absurd (omega (arith, below)); by = by; state = state }

-- from the first place on the only front is the events
same_front : (rules : Rules) (list : List (List ℕ)) (old now : List Event) (place : ℕ) (machine : Machine) (at : GoesTo rules list old now 0 place machine) → at.front ≡ now
same_front rules list old now place machine at =
    same_items at.front now (at.up.renumbered.as_many ∙ sym at.long) (same_take at.front now (length at.front) (λ k below. at.there k (omega arith)))

pub went_through : (rules : Rules) (list : List (List ℕ)) (old now : List Event) (place : ℕ) (machine : Machine) → GoesTo rules list old now 0 place machine → place ≡ length old
    → IsCorrection rules list old now
went_through rules list old now place machine at end =
    subst (IsCorrection rules list old) (same_front rules list old now place machine at) (whole rules list old at.front place at.up end)
