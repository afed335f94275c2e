-- How many changes a record has, place after place.
use Rattle.std.proofs.Common.{◌≡◌, ℕ, ◌+◌, ◌*◌, ◌≤◌, Bool, List, length, Option, Some, None, refl, sym, ap, ◌∙◌}
use Rattle.std.specs.Prelude.{if◌then◌else◌}
use Rattle.std.proofs.lemmas.Bool.{le-leb}
use Rattle.std.specs.List.{flat_map, range_with_len}
use Rattle.std.proofs.lemmas.List.{length-map}
use Rattle.ref_tiles.specs.declared.rulebook.Rules.{Rules}
use Rattle.gcg_read.specs.declared.events.Event.{Event}
use Rattle.game_turns.specs.declared.machine.Machine.{Machine}
use Rattle.game_turns.specs.Machines.{state_of}
use Rattle.repair_changes.specs.declared.slips.Change.{Change}
use Rattle.repair_changes.specs.declared.slips.Slip.{Slip}
use Rattle.repair_slips.specs.Changes.{slips_by, change_at, changes_at}
use Rattle.repair_slips.specs.Laws.{SlipsAreByBoard}
use Rattle.repair_single.specs.Trying.{StandsBefore}
use Rattle.repair_single.proofs.PlaceChanges.{listed_here}
use Rattle.repair_answers.specs.Tried.{count_before, limit_for}
use Rattle.repair_answers.proofs.Ranges.{lists_more}

-- as many changes as slips
pub count_here : SlipsAreByBoard → (rules : Rules) (list : List (List ℕ)) (written : List Event) (place : ℕ) (machine : Machine) (slips : List Slip) → StandsBefore rules list written place machine
    → slips ≡ slips_by rules (state_of machine) written place → length slips ≡ length (changes_at rules written place)
count_here law rules list written place machine slips at is =
    sym (length-map slips (change_at place)) ∙ ap (λ (cs : List Change). length cs) (listed_here law rules list written place machine slips at is)

pub none_before : (rules : Rules) (events : List Event) → 0 ≡ count_before rules events 0
unfolding count_before
none_before rules events = refl

pub count_more : (rules : Rules) (events : List Event) (place many here : ℕ) → many ≡ count_before rules events place → here ≡ length (changes_at rules events place)
    → many + here ≡ count_before rules events (place + 1)
unfolding count_before
count_more rules events place many here so_far is =
    ap (λ n. n + here) so_far ∙ ap (λ n. length (flat_map (changes_at rules events) (range_with_len 0 place)) + n) is ∙ sym (lists_more (changes_at rules events) place)

-- few changes have no limit
pub no_limit : (many all events steps : ℕ) (limit : Option ℕ) → limit ≡ limit_for many events steps → many ≡ all → all * events ≤ steps → limit ≡ None
no_limit many all events steps limit is same few =
    is ∙ ap (λ n. limit_for n events steps) same ∙ ap (λ (b : Bool). if b then None else Some steps) (le-leb (all * events) steps few)
