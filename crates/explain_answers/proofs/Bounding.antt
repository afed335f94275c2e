-- That a bound of the racks which is exceeded is said.
use Rattle.std.proofs.Common.{◌≡◌, ◌<◌, ◌||◌, ℕ, Bool, true, false, List, [], ◌∷◌, ◌++◌, length, Option, Some, None, Result, Ok, Err, refl, sym, ◌∙◌, subst, arith}
use Rattle.std.specs.List.{list_any}
use Rattle.std.specs.Prelude.{IfOk}
use Rattle.std.proofs.lemmas.List.Folds.{list_any-append}
use Rattle.first_faults.proofs.CheckLaws.{some_fault}
use Rattle.ref_tiles.specs.declared.rulebook.Rules.{Rules}
use Rattle.gcg_read.specs.declared.events.Event.{Event}
use Rattle.game_turns.specs.declared.faults.RuleFault.{RuleFault}
use Rattle.game_turns.specs.Places.{fault_at, AreAllowed, IsRefusedBefore}
use Rattle.deal_steps.specs.declared.faults.DealBound.{DealBound}
use Rattle.deal_steps.specs.declared.faults.DealBound.TheVariants as bound
use Rattle.engine_stages.specs.declared.verdicts.GameFault.{GameFault}
use Rattle.engine_stages.specs.declared.verdicts.GameFault.TheVariants as game
use Rattle.game_deal.specs.Recorded.{steps_of}
use Rattle.explain_facts.specs.declared.facts.Fact.{Fact}
use Rattle.explain_facts.specs.FaultFacts.{is_fact_of_bound, says_bound, listed}
use Rattle.explain_answers.specs.Events.{IsFoundFor, SayTheRacks}

or_first : (a b : Bool) → a ≡ true → (a || b) ≡ true
or_first true b e = refl
or_first false b e = cc

or_last : (a b : Bool) → b ≡ true → (a || b) ≡ true
or_last true b e = refl
or_last false b e = e

any_before : (test : Fact → Bool) (old more : List Fact) → list_any test old ≡ true → list_any test (old ++ more) ≡ true
any_before test old more some = list_any-append test old more ∙ or_first (list_any test old) (list_any test more) some

any_listed : (exceeded : DealBound) (old : List Fact) (said : Option Fact) → says_bound exceeded said ≡ true → list_any (is_fact_of_bound exceeded) (old ++ listed said) ≡ true
any_listed exceeded old None is = cc
any_listed exceeded old (Some said) is =
    list_any-append (is_fact_of_bound exceeded) old (said ∷ [])
    ∙ or_last (list_any (is_fact_of_bound exceeded) old) (is_fact_of_bound exceeded said || false) (or_first (is_fact_of_bound exceeded said) false is)

-- what holds of each value holds of a result
pub any_ok : {A E : Type 0} (P : A → Type 0) (r : Result A E) → ((x : A) → P x) → IfOk r P
any_ok P (Ok x) each = each x
any_ok P (Err e) each = tt

-- what is said stays said
more_said : (rules : Rules) (list : List (List ℕ)) (events : List Event) (place : ℕ) (why : Option GameFault) (old more : List Fact) → SayTheRacks rules list events place why old
    → SayTheRacks rules list events place why (old ++ more)
more_said rules list events place None old more said = tt
more_said rules list events place (Some (game.Rule why)) old more said = tt
more_said rules list events place (Some game.RackTooBig) old more said =
    λ line allowed first. any_before (is_fact_of_bound (bound.RackTooBig line)) old more (said line allowed first)
more_said rules list events place (Some (game.TilesShort kind)) old more said =
    λ line allowed first. any_before (is_fact_of_bound (bound.TilesShort line kind)) old more (said line allowed first)
more_said rules list events place (Some (game.NoDeal earlier)) old more said = tt

pub goes_on : (rules : Rules) (list : List (List ℕ)) (events : List Event) (place : ℕ) (why : Option GameFault) (old new more : List Fact) → new ≡ old ++ more
    → SayTheRacks rules list events place why old → SayTheRacks rules list events place why new
goes_on rules list events place why old new more is said = subst (SayTheRacks rules list events place why) (sym is) (more_said rules list events place why old more said)

-- what is found is said
found_said : (rules : Rules) (list : List (List ℕ)) (events : List Event) (place : ℕ) (why : GameFault) (said : Option Fact) (old : List Fact)
    → IsFoundFor rules (steps_of rules events) place why said → SayTheRacks rules list events place (Some why) (old ++ listed said)
found_said rules list events place (game.Rule why) said old found = tt
found_said rules list events place game.RackTooBig said old found = λ line allowed first. any_listed (bound.RackTooBig line) old said (found line first)
found_said rules list events place (game.TilesShort kind) said old found = λ line allowed first. any_listed (bound.TilesShort line kind) old said (found line first)
found_said rules list events place (game.NoDeal earlier) said old found = tt

pub is_said : (rules : Rules) (list : List (List ℕ)) (events : List Event) (place : ℕ) (why : GameFault) (said : Option Fact) (old new : List Fact) → new ≡ old ++ listed said
    → IsFoundFor rules (steps_of rules events) place why said → SayTheRacks rules list events place (Some why) new
is_said rules list events place why said old new is found = subst (SayTheRacks rules list events place (Some why)) (sym is) (found_said rules list events place why said old found)

-- nothing has to be said if some event is refused
pub none_due : (rules : Rules) (list : List (List ℕ)) (events : List Event) (place : ℕ) (why : Option GameFault) (facts : List Fact) → (AreAllowed rules list events → ⊥)
    → SayTheRacks rules list events place why facts
none_due rules list events place None facts refused = tt
none_due rules list events place (Some (game.Rule why)) facts refused = tt
none_due rules list events place (Some game.RackTooBig) facts refused = λ line allowed first. absurd (refused allowed)
none_due rules list events place (Some (game.TilesShort kind)) facts refused = λ line allowed first. absurd (refused allowed)
none_due rules list events place (Some (game.NoDeal earlier)) facts refused = tt

pub one_refused : (rules : Rules) (list : List (List ℕ)) (events : List Event) (place : ℕ) (why : RuleFault) → place < length events → fault_at rules list events place ≡ Some why
    → AreAllowed rules list events → ⊥
one_refused rules list events place why within fails allowed = some_fault why (sym fails ∙ allowed place within)

pub one_before : (rules : Rules) (list : List (List ℕ)) (events : List Event) (place line : ℕ) (why : RuleFault) → place < length events
    → IsRefusedBefore rules list events place line why → AreAllowed rules list events → ⊥
one_before rules list events place line why within refused allowed =
    let before = refused.before in
    some_fault why (sym refused.first.fails ∙ allowed refused.first.place (omega (arith, within, before)))
