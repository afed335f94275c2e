-- If no racks fit the first steps of a correction, no change after them and the next event helps.
use Rattle.std.proofs.Common.{◌≡◌, ℕ, ◌+◌, ◌<◌, List, [], take, slice_get, Option, Some, None, refl, sym, ap, ◌∙◌, subst, arith}
use Rattle.std.proofs.lemmas.Option.{slice_get_past}
use Rattle.ref_tiles.specs.declared.rulebook.Rules.{Rules}
use Rattle.gcg_read.specs.declared.events.Event.{Event}
use Rattle.game_turns.specs.Tallies.{tally_at, withdraws}
use Rattle.game_corrections.specs.Corrections.{IsCorrection}
use Rattle.game_corrections.proofs.Fronts.{one_correction}
use Rattle.deal_cuts.specs.Cutting.{HasNoDeal}
use Rattle.deal_cuts.specs.Laws.{FrontsDecide}
use Rattle.deal_steps.specs.declared.steps.Step.{Step}
use Rattle.game_deal.specs.Recorded.{step_in, steps_of}
use Rattle.game_deal.proofs.StepLaws.{length-steps, step_is}
use Rattle.repair_changes.specs.Applied.{applied}
use Rattle.repair_single.specs.Laws.{NoneAfterRacks}
use Rattle.repair_single.proofs.Lists.{get_take, same_take, past_of}
use Rattle.repair_single.proofs.Fronts.{same_tally, front_correction}
use Rattle.repair_single.proofs.Stops.{same_front}

no_step : (rules : Rules) (events : List Event) (k : ℕ) → slice_get events k ≡ None → slice_get (steps_of rules events) k ≡ None
no_step rules events k none =
    let many = length-steps rules [] events in
    let past = past_of events k none in
    slice_get_past (steps_of rules events) k (omega (arith, many, past))

pub step_by : (rules : Rules) (xs ys : List Event) (k : ℕ) (o : Option Event) → slice_get xs k ≡ o → slice_get ys k ≡ o → tally_at rules ys k ≡ tally_at rules xs k
    → withdraws (slice_get ys (k + 1)) ≡ withdraws (slice_get xs (k + 1)) → slice_get (steps_of rules ys) k ≡ slice_get (steps_of rules xs) k
step_by rules xs ys k None of_xs of_ys same next = no_step rules ys k of_ys ∙ sym (no_step rules xs k of_xs)
step_by rules xs ys k (Some e) of_xs of_ys same next =
    let s = tally_at rules xs k in
    let w = withdraws (slice_get xs (k + 1)) in
    let step : Step = step_in s e w in
    step_is rules ys k e s w step of_ys (sym same) (sym next) refl ∙ sym (step_is rules xs k e s w step of_xs refl refl refl)

-- the steps of lists that agree for two more events than there are steps before them
same_steps : (rules : Rules) (xs ys : List Event) (place : ℕ) → take (place + 2) ys ≡ take (place + 2) xs → take (place + 1) (steps_of rules ys) ≡ take (place + 1) (steps_of rules xs)
same_steps rules xs ys place same =
    same_take (steps_of rules ys) (steps_of rules xs) (place + 1)
    (λ k below.
    let at : (j : ℕ) → j < place + 2 → slice_get ys j ≡ slice_get xs j =
    λ j within. sym (get_take ys (place + 2) j within) ∙ ap (λ (events : List Event). slice_get events j) same ∙ get_take xs (place + 2) j within in
    let fronts : take (k + 1) ys ≡ take (k + 1) xs = same_take ys xs (k + 1) (λ j less. at j (omega (arith, below, less))) in
    step_by rules xs ys k (slice_get xs k) refl (at k (omega (arith, below))) (same_tally rules xs ys k fronts) (ap withdraws (at (k + 1) (omega (arith, below)))))

pub none_after_racks : FrontsDecide → NoneAfterRacks
none_after_racks law rules list written right place is undealt change before other of_other game =
    let n = place + 2 in
    let step : place + 1 + 1 ≡ place + 2 = omega arith in
    let stays : take n (applied change written) ≡ take n written = subst (λ m. take m (applied change written) ≡ take m written) step (same_front change written (place + 1) before) in
    let corrected : IsCorrection rules list (take n written) (take n other) =
    subst (λ (events : List Event). IsCorrection rules list events (take n other)) stays (front_correction rules list (applied change written) other n of_other) in
    let same = one_correction rules list (take n written) (take n right) (take n other) (front_correction rules list written right n is) corrected in
    let none = subst (HasNoDeal rules) (sym (same_steps rules right other place (sym same))) undealt in
    law rules (steps_of rules other) (place + 1) none game.racks game.dealt
