-- Events that are, from a place on, those of another record from a place on, if the game there is the same.
use Rattle.std.proofs.Common.{◌≡◌, ◌⊎◌, inl, inr, ℕ, zero, suc, ◌+◌, ◌-◌, ◌<◌, ◌≤◌, List, ◌++◌, length, reverse, take, drop, slice_get, Option, Some, None, sym, ap, ◌∙◌, subst, arith}
use Rattle.std.proofs.lemmas.Bool.{cases_lt}
use Rattle.std.proofs.lemmas.List.{length-append, length-drop, length-take-le}
use Rattle.ref_tiles.specs.declared.rulebook.Rules.{Rules}
use Rattle.gcg_read.specs.declared.events.Event.{Event}
use Rattle.game_turns.specs.Changes.{after}
use Rattle.game_turns.specs.Checks.{fault_in}
use Rattle.game_turns.specs.Laws.{NextTallyIsAfter}
use Rattle.game_turns.specs.Places.{fault_at, AreAllowedTo}
use Rattle.game_turns.specs.Tallies.{State, tally, tally_at, withdraws}
use Rattle.game_turns.proofs.PlaceLaws.{fault_here, allowed_more}
use Rattle.game_corrections.specs.Corrections.{IsRenumbered, AreRenumbered}
use Rattle.game_corrections.proofs.Fronts.{same_withdrawal}
use Rattle.game_corrections.proofs.Sheets.{some_event}
use Rattle.repair_single.proofs.Fronts.{same_fault}
use Rattle.repair_single.proofs.Lists.{get_front, take_front}
use Rattle.repair_single.proofs.Parts.{get_after, get_drop}

-- a corrected front of the one, with the corrected events of the other after it
abbrev pub rejoined : (at : ℕ) → (front : List Event) → (end : ℕ) → (other : List Event) → List Event
rejoined at front end other = take at front ++ drop end other

pub rejoined_there : (at end k : ℕ) (front other : List Event) → at ≤ length front → slice_get (rejoined at front end other) (at + k) ≡ slice_get other (end + k)
rejoined_there at end k front other within = get_after front (drop end other) at k within ∙ get_drop other end k

-- Two lists of events that are the same from a place of each on, each with a corrected front.
pub record Meet (rules : Rules) (list : List (List ℕ)) (written changed front other : List Event) (at end many : ℕ) : Type 0 where
  pub like : AreRenumbered changed front
  pub allowed : AreAllowedTo rules list front at
  pub within : at ≤ length changed
  pub other_like : AreRenumbered written other
  pub other_allowed : AreAllowedTo rules list other (end + many)
  pub other_within : end + many ≤ length written
  pub game : tally_at rules front at ≡ tally_at rules other end
  pub rest : (k : ℕ) → slice_get changed (at + k) ≡ slice_get written (end + k)
  pub as_many : length changed + end ≡ length written + at

each_rejoined : (rules : Rules) (list : List (List ℕ)) (written changed front other : List Event) (at end many k : ℕ) (a b : Event) → Meet rules list written changed front other at end many
    → slice_get changed k ≡ Some a → slice_get (rejoined at front end other) k ≡ Some b → (k < at) ⊎ (at ≤ k) → IsRenumbered a b
each_rejoined rules list written changed front other at end many k a b meet of_a of_b (inl below) =
    let within = meet.within in
    let long = meet.like.as_many in
    meet.like.each k a b of_a (sym (get_front front (drop end other) at k below (omega (arith, within, long))) ∙ of_b)
each_rejoined rules list written changed front other at end many k a b meet of_a of_b (inr from) =
    let within = meet.within in
    let long = meet.like.as_many in
    let is : at + (k - at) ≡ k = omega (arith, from) in
    meet.other_like.each (end + (k - at)) a b (sym (meet.rest (k - at)) ∙ ap (slice_get changed) is ∙ of_a)
    (sym (rejoined_there at end (k - at) front other (omega (arith, within, long))) ∙ ap (slice_get (rejoined at front end other)) is ∙ of_b)

pub rejoined_like : (rules : Rules) (list : List (List ℕ)) (written changed front other : List Event) (at end many : ℕ) → Meet rules list written changed front other at end many
    → AreRenumbered changed (rejoined at front end other)
rejoined_like rules list written changed front other at end many meet =
    let within = meet.within in
    let long = meet.like.as_many in
    let other_long = meet.other_like.as_many in
    let other_within = meet.other_within in
    let as_many = meet.as_many in
    let all = length-append (take at front) (drop end other) in
    let one = length-take-le at front (omega (arith, within, long)) in
    let two = length-drop end other in
    record {
      as_many = omega (arith, all, one, two, long, within, other_long, other_within, as_many);
      each = λ k a b of_a of_b. each_rejoined rules list written changed front other at end many k a b meet of_a of_b (cases_lt k at);
    }

-- the game of both at a number of events after the place
pub record AreLevel (rules : Rules) (list : List (List ℕ)) (joined other : List Event) (at end k : ℕ) : Type 0 where
  pub allowed : AreAllowedTo rules list joined (at + k)
  pub game : tally_at rules joined (at + k) ≡ tally_at rules other (end + k)

level_there : (rules : Rules) (list : List (List ℕ)) (written changed front other : List Event) (at end many : ℕ) → Meet rules list written changed front other at end many
    → AreLevel rules list (rejoined at front end other) other at end 0
level_there rules list written changed front other at end many meet =
    let within = meet.within in
    let long = meet.like.as_many in
    let enough : at ≤ length front = omega (arith, within, long) in
    let j = rejoined at front end other in
    let none : at + 0 ≡ at = omega arith in
    let first : end + 0 ≡ end = omega arith in
    let flag : withdraws (slice_get j at) ≡ withdraws (slice_get front at) =
    ap (λ (n : ℕ). withdraws (slice_get j n)) (sym none) ∙ ap withdraws (rejoined_there at end 0 front other enough) ∙ same_withdrawal written other (end + 0) meet.other_like
    ∙ ap withdraws (sym (meet.rest 0)) ∙ ap (λ (n : ℕ). withdraws (slice_get changed n)) none ∙ sym (same_withdrawal changed front at meet.like) in
    let past : take at j ≡ take at front = take_front front (drop end other) at at (omega arith) enough in
    let same : tally_at rules j at ≡ tally_at rules front at =
    ap (λ w. tally rules w (reverse (take at j))) flag ∙ ap (λ (events : List Event). tally rules (withdraws (slice_get front at)) (reverse events)) past in
    record {
      allowed = λ k below.
          same_fault rules list front j k (take_front front (drop end other) at (k + 1) (omega (arith, below)) enough) ∙ meet.allowed k (omega (arith, below));
      game = ap (tally_at rules j) none ∙ same ∙ meet.game ∙ ap (tally_at rules other) (sym first);
    }

level_more : NextTallyIsAfter → (rules : Rules) (list : List (List ℕ)) (written changed front other : List Event) (at end many k : ℕ) → Meet rules list written changed front other at end many
    → k < many → AreLevel rules list (rejoined at front end other) other at end k → AreLevel rules list (rejoined at front end other) other at end (k + 1)
level_more law rules list written changed front other at end many k meet below level =
    let within = meet.within in
    let long = meet.like.as_many in
    let other_long = meet.other_like.as_many in
    let other_within = meet.other_within in
    let enough : at ≤ length front = omega (arith, within, long) in
    let j = rejoined at front end other in
    let there = some_event other (end + k) (omega (arith, below, other_long, other_within)) in
    let e = there.event in
    let here : slice_get j (at + k) ≡ Some e = rejoined_there at end k front other enough ∙ there.stands in
    let next : slice_get j (at + (k + 1)) ≡ slice_get other (end + (k + 1)) = rejoined_there at end (k + 1) front other enough in
    let step : at + k + 1 ≡ at + (k + 1) = omega arith in
    let step_other : end + k + 1 ≡ end + (k + 1) = omega arith in
    let none : fault_at rules list j (at + k) ≡ None =
    fault_here rules list j (at + k) e here ∙ ap (λ (s : State). fault_in rules list s e) level.game ∙ sym (fault_here rules list other (end + k) e there.stands)
    ∙ meet.other_allowed (end + k) (omega (arith, below)) in
    let allowed : AreAllowedTo rules list j (at + k + 1) = allowed_more rules list j (at + k) level.allowed none in
    let other_allowed : AreAllowedTo rules list other (end + k + 1) = λ i less. meet.other_allowed i (omega (arith, less, below)) in
    record {
      allowed = subst (λ n. AreAllowedTo rules list j n) step allowed;
      game = ap (tally_at rules j) (sym step) ∙ sym (law rules list j (at + k) e here allowed)
          ∙ ap (λ (s : State). after rules s e (withdraws (slice_get j (at + k + 1)))) level.game
          ∙ ap (λ (o : Option Event). after rules (tally_at rules other (end + k)) e (withdraws o)) (ap (slice_get j) step ∙ next ∙ ap (slice_get other) (sym step_other))
          ∙ law rules list other (end + k) e there.stands other_allowed ∙ ap (tally_at rules other) step_other;
    }

pub are_level : NextTallyIsAfter → (rules : Rules) (list : List (List ℕ)) (written changed front other : List Event) (at end many k : ℕ) → Meet rules list written changed front other at end many
    → k ≤ many → AreLevel rules list (rejoined at front end other) other at end k
are_level law rules list written changed front other at end many zero meet within = level_there rules list written changed front other at end many meet
are_level law rules list written changed front other at end many (suc k) meet within =
    let step : k + 1 ≡ suc k = omega arith in
    subst (λ n. AreLevel rules list (rejoined at front end other) other at end n) step
    (level_more law rules list written changed front other at end many k meet (omega (arith, within)) (are_level law rules list written changed front other at end many k meet (omega (arith, within))))
