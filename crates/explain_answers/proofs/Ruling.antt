-- What is said of an event by how it stands in the record.
use Rattle.std.proofs.Common.{◌≡◌, ℕ, zero, suc, ◌+◌, ◌<◌, nat_lt, Bool, true, false, List, [], ◌∷◌, ◌++◌, length, length-append, reverse, take, slice_get, Option, Some, None, refl, sym, ap, ◌∙◌, subst, arith}
use Rattle.std.proofs.lemmas.Bool.{both_ways, ltb-true, ltb-false}
use Rattle.std.proofs.lemmas.Option.{same_Some}
use Rattle.first_faults.proofs.CheckLaws.{some_fault}
use Rattle.ref_tiles.specs.declared.rulebook.Rules.{Rules}
use Rattle.gcg_read.specs.declared.events.Event.{Event}
use Rattle.game_turns.specs.declared.faults.RuleFault.{RuleFault}
use Rattle.game_turns.specs.Standing.{is_withdraw}
use Rattle.game_turns.specs.Tallies.{State, withdraws, tally, tally_at}
use Rattle.game_turns.specs.Places.{fault_of_event, fault_at, AreAllowed, AreAllowedTo, IsFirstRefusal, IsRefusedBefore}
use Rattle.explain_facts.specs.declared.facts.Fact.{Fact}
use Rattle.explain_facts.specs.declared.facts.Fact.TheVariants as fact
use Rattle.explain_facts.specs.declared.facts.rulings.RulingFact.TheVariants as ruling_fact
use Rattle.explain_facts.specs.FaultFacts.{begin_with}
use Rattle.explain_answers.specs.Events.{SayTheRuling}

pub has_one_more : (old new : List Fact) (said : Fact) → new ≡ old ++ said ∷ [] → 0 < length new
has_one_more old new said is = rw (is, length-append) (omega arith)

-- facts that begin with one have one
begun : (why : RuleFault) (facts : List Fact) → begin_with why facts ≡ true → 0 < length facts
unfolding begin_with
begun why [] is = absurd (both_ways (begin_with why []) refl is)
begun why (said ∷ facts) is = omega arith

-- the state before an event is what the events before it add up to
pub adds_up : (rules : Rules) (events past : List Event) (place : ℕ) (e : Event) (s : State) → slice_get events place ≡ Some e → s ≡ tally_at rules events place → past ≡ take place events
    → s ≡ tally rules (is_withdraw e.kind) (reverse past)
adds_up rules events past place e s stands is front =
    is ∙ ap (λ (o : Option Event). tally rules (withdraws o) (reverse (take place events))) stands
    ∙ ap (λ (es : List Event). tally rules (is_withdraw e.kind) (reverse es)) (sym front)

-- what is read in the first of some events
get_front : (events : List Event) (n k : ℕ) → k < n → slice_get (take n events) k ≡ slice_get events k
get_front events zero k below = absurd (omega (arith, below))
get_front [] (suc n) k below = refl
get_front (e ∷ events) (suc n) zero below = refl
get_front (e ∷ events) (suc n) (suc k) below = get_front events n k (omega (arith, below))

take_front : (events : List Event) (n k : ℕ) → k < n → take k (take n events) ≡ take k events
take_front events zero k below = absurd (omega (arith, below))
take_front [] (suc n) k below = refl
take_front (e ∷ events) (suc n) zero below = refl
take_front (e ∷ events) (suc n) (suc k) below = ap (λ (es : List Event). e ∷ es) (take_front events n k (omega (arith, below)))

front_below : (events : List Event) (n k : ℕ) → k < length (take n events) → k < n
front_below [] zero k within = absurd (omega (arith, within))
front_below [] (suc n) k within = absurd (omega (arith, within))
front_below (e ∷ events) zero k within = absurd (omega (arith, within))
front_below (e ∷ events) (suc n) zero within = omega arith
front_below (e ∷ events) (suc n) (suc k) within = let below = front_below events n k (omega (arith, within)) in omega (arith, below)

front_allowed : (rules : Rules) (list : List (List ℕ)) (events : List Event) (place k : ℕ) → k < place → fault_at rules list events k ≡ None
    → fault_at rules list (take place events) k ≡ None
unfolding fault_at
front_allowed rules list events place k below none =
    subst (λ (es : List Event). fault_of_event rules list (tally rules (withdraws (slice_get (take place events) k)) (reverse es)) (slice_get (take place events) k) ≡ None)
    (sym (take_front events place k below))
    (subst (λ (o : Option Event). fault_of_event rules list (tally rules (withdraws o) (reverse (take k events))) o ≡ None) (sym (get_front events place k below)) none)

-- the events before one that are allowed, by themselves
pub allowed_before : (rules : Rules) (list : List (List ℕ)) (events past : List Event) (place : ℕ) → past ≡ take place events → AreAllowedTo rules list events place
    → AreAllowed rules list past
allowed_before rules list events past place front allowed =
    subst (AreAllowed rules list) (sym front)
    (λ k within. let below = front_below events place k within in front_allowed rules list events place k below (allowed k below))

-- an event that is allowed together with those before it is not refused, and none before it is
pub of_allowed : (rules : Rules) (list : List (List ℕ)) (events : List Event) (place : ℕ) (facts : List Fact) → AreAllowedTo rules list events (place + 1) → 0 < length facts
    → SayTheRuling rules list events place facts
of_allowed rules list events place facts allowed some =
    record {
      refused = λ why _ fails. absurd (some_fault why (sym fails ∙ allowed place (omega arith)));
      following = λ line why refused.
          let before = refused.before in
          absurd (some_fault why (sym refused.first.fails ∙ allowed refused.first.place (omega (arith, before))));
      some = some;
    }

pub of_refused : (rules : Rules) (list : List (List ℕ)) (events : List Event) (place : ℕ) (why : RuleFault) (facts : List Fact) → AreAllowedTo rules list events place
    → fault_at rules list events place ≡ Some why → begin_with why facts ≡ true → SayTheRuling rules list events place facts
of_refused rules list events place why facts allowed fails begin =
    record {
      refused = λ other _ is. subst (λ (f : RuleFault). begin_with f facts ≡ true) (same_Some why other (sym fails ∙ is)) begin;
      following = λ line other refused. absurd (some_fault other (sym refused.first.fails ∙ allowed refused.first.place refused.before));
      some = begun why facts begin;
    }

-- two events of a record are not both the first that is refused
one_place : (rules : Rules) (list : List (List ℕ)) (events : List Event) (line other : ℕ) (why what : RuleFault) (a : IsFirstRefusal rules list events line why)
    (b : IsFirstRefusal rules list events other what) (x y : Bool) → nat_lt a.place b.place ≡ x → nat_lt b.place a.place ≡ y → a.place ≡ b.place
one_place rules list events line other why what a b true y is_x is_y = absurd (some_fault why (sym a.fails ∙ b.earlier a.place (ltb-true a.place b.place is_x)))
one_place rules list events line other why what a b false true is_x is_y = absurd (some_fault what (sym b.fails ∙ a.earlier b.place (ltb-true b.place a.place is_y)))
one_place rules list events line other why what a b false false is_x is_y =
    let low = ltb-false a.place b.place is_x in
    let high = ltb-false b.place a.place is_y in
    omega (arith, low, high)

one_line : (rules : Rules) (list : List (List ℕ)) (events : List Event) (line other : ℕ) (why what : RuleFault) (a : IsFirstRefusal rules list events line why)
    (b : IsFirstRefusal rules list events other what) → line ≡ other
one_line rules list events line other why what a b =
    let same = one_place rules list events line other why what a b (nat_lt a.place b.place) (nat_lt b.place a.place) refl refl in
    let one : a.event ≡ b.event = same_Some a.event b.event (sym a.stands ∙ ap (slice_get events) same ∙ b.stands) in
    sym a.on_line ∙ ap (λ (e : Event). e.line) one ∙ b.on_line

pub of_later : (rules : Rules) (list : List (List ℕ)) (events : List Event) (place line : ℕ) (why : RuleFault) (facts : List Fact) → IsRefusedBefore rules list events place line why
    → facts ≡ fact.Ruling (ruling_fact.NotJudged line) ∷ [] → SayTheRuling rules list events place facts
of_later rules list events place line why facts refused is =
    record {
      refused = λ other allowed fails. absurd (some_fault why (sym refused.first.fails ∙ allowed refused.first.place refused.before));
      following = λ on other later. is ∙ ap (λ (n : ℕ). fact.Ruling (ruling_fact.NotJudged n) ∷ []) (one_line rules list events line on why other refused.first later.first);
      some = subst (λ (these : List Fact). 0 < length these) (sym is) (omega arith);
    }
