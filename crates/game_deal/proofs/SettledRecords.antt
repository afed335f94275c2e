-- What a cut of the steps of a record says about its events.
use Rattle.std.proofs.Common.{◌≡◌, ℕ, ◌+◌, ◌-◌, ◌<◌, List, [], length, take, get_or, refl, ap, sym, subst, ◌∙◌, arith}
use Rattle.std.proofs.lemmas.Option.{slice_get_read}
use Rattle.gcg_read.specs.declared.events.Event.{Event}
use Rattle.game_turns.specs.declared.passed.Passed.{Passed}
use Rattle.game_turns.specs.Passing.{rules_in, record_in}
use Rattle.deal_cuts.specs.Cutting.{HasNoDeal}
use Rattle.deal_cuts.specs.declared.earlier.Earlier.{Earlier}
use Rattle.deal_search.specs.Settling.{EndsDeals, IsKnownOf}
use Rattle.game_deal.specs.Bounded.{steps_in}
use Rattle.game_deal.specs.Settling.{EndsOnLine}
use Rattle.game_deal.proofs.StepLaws.{length-steps}

-- the last of the first steps is that of an event
pub place_within : (passed : Passed) (n : ℕ) → EndsDeals (rules_in passed) (steps_in passed) n → n - 1 < length (record_in passed).events
place_within passed n ends = let long = length-steps (rules_in passed) [] (record_in passed).events in omega (arith, ends.some, ends.within)

pub ends_on : (passed : Passed) (given : List Event) (n place : ℕ) (earlier : Earlier) (event : Event) → EndsDeals (rules_in passed) (steps_in passed) n
    → IsKnownOf (rules_in passed) (steps_in passed) (n - 1) earlier → place + 1 ≡ n → given ≡ (record_in passed).events → event ≡ get_or given place event
    → EndsOnLine passed (get_or given place event).line earlier
ends_on passed given n place earlier event ends known last same there =
    let events = (record_in passed).events in
    let here : event ≡ get_or events place event = there ∙ ap (λ (es : List Event). get_or es place event) same in
    let before : n - 1 ≡ place = omega arith in
    let within = place_within passed n ends in
    subst (λ (e : Event). EndsOnLine passed e.line earlier) there (record {
      place = place;
      event = event;
      stands = slice_get_read events (length events) place event refl (omega arith) here;
      on_line = refl;
      undealt = subst (λ k. HasNoDeal (rules_in passed) (take k (steps_in passed))) (sym last) ends.none;
      known = subst (λ k. IsKnownOf (rules_in passed) (steps_in passed) k earlier) before known;
    })
