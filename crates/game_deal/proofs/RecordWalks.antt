-- Walks over the steps of a record, one by one.
use Rattle.std.proofs.Common.{◌≡◌, ℕ, ◌+◌, ◌≤◌, List, [], ◌∷◌, ◌++◌, length, take, slice_get, ap, ◌∙◌, arith, Some}
use Rattle.std.proofs.lemmas.List.{take_more}
use Rattle.std.proofs.lemmas.Option.{slice_get_within, get_or_from_slice_get}
use Rattle.ref_tiles.specs.declared.rulebook.Rules.{Rules}
use Rattle.gcg_read.specs.declared.events.Event.{Event}
use Rattle.game_deal.specs.Recorded.{steps_of}
use Rattle.game_deal.proofs.StepLaws.{length-steps}

-- one more step is appended
pub steps_more : {X : Type 0} (steps : List X) (i : ℕ) (s : X) → slice_get steps i ≡ Some s → take (i + 1) steps ≡ take i steps ++ s ∷ []
steps_more steps i s is = take_more steps i s (slice_get_within steps i s is) ∙ ap (λ x. take i steps ++ x ∷ []) (get_or_from_slice_get steps i s s is)

-- after the last event
pub at_end : (rules : Rules) (events given : List Event) (n i : ℕ) → given ≡ events → n ≡ length given → n ≤ i → length (steps_of rules events) ≤ i
at_end rules events given n i same size past =
    let steps = length-steps rules [] events in
    let long = ap length same in
    omega arith
