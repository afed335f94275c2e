-- The game before a place of a record, and of the same record with a change.
use Rattle.std.proofs.Common.{◌≡◌, ◌⊎◌, inl, inr, ℕ, ◌+◌, ◌-◌, ◌<◌, ◌≤◌, Bool, true, false, List, [], ◌++◌, length, reverse, take, drop, slice_get, Some, refl, sym, ap, ◌∙◌, subst, arith}
use Rattle.std.proofs.lemmas.Bool.{cases_lt}
use Rattle.std.proofs.lemmas.List.{length-append, length-drop, length-take-le}
use Rattle.std.proofs.lemmas.Option.{same_Some}
use Rattle.ref_tiles.specs.declared.rulebook.Rules.{Rules}
use Rattle.gcg_read.specs.declared.events.Event.{Event}
use Rattle.game_turns.specs.declared.machine.Machine.{Machine}
use Rattle.game_turns.specs.Machines.{rules_of, state_of}
use Rattle.game_turns.specs.Places.{AreAllowedTo}
use Rattle.game_turns.specs.Tallies.{tally, tally_at, withdraws}
use Rattle.game_corrections.specs.Corrections.{IsRenumbered, AreRenumbered}
use Rattle.game_corrections.proofs.Fronts.{itself, same_withdrawal}
use Rattle.repair_single.specs.Trying.{StandsBefore, IsStart}
use Rattle.repair_single.proofs.Lists.{get_front, get_after, take_front}
use Rattle.repair_single.proofs.Fronts.{same_fault}

-- a corrected front, with other events after it
abbrev pub joined_at : (start : ℕ) → (front changed : List Event) → List Event
joined_at start front changed = take start front ++ drop start changed

each_joined : (written changed front : List Event) (start k : ℕ) (a b : Event) → AreRenumbered written front → start ≤ length front
    → ((j : ℕ) → j < start → slice_get changed j ≡ slice_get written j) → slice_get changed k ≡ Some a → slice_get (joined_at start front changed) k ≡ Some b
    → (k < start) ⊎ (start ≤ k) → IsRenumbered a b
each_joined written changed front start k a b like within same of_a of_b (inl below) =
    like.each k a b (sym (same k below) ∙ of_a) (sym (get_front front (drop start changed) start k below within) ∙ of_b)
each_joined written changed front start k a b like within same of_a of_b (inr following) =
    subst (IsRenumbered a) (same_Some a b (sym of_a ∙ sym (get_after front changed start k within following) ∙ of_b)) (itself a)

-- at the first place of all it does not matter whether there is a withdrawal
none_before : (rules : Rules) (a b : Bool) → tally rules a [] ≡ tally rules b []
unfolding tally
none_before rules true true = refl
none_before rules true false = refl
none_before rules false true = refl
none_before rules false false = refl

pub tally_joined : (rules : Rules) (written changed front : List Event) (start : ℕ) → AreRenumbered written front → start ≤ length front
    → (start ≡ 0) ⊎ (withdraws (slice_get changed start) ≡ withdraws (slice_get written start)) → tally_at rules (joined_at start front changed) start ≡ tally_at rules front start
tally_joined rules written changed front start like within (inl first) =
    let at_first : tally_at rules (joined_at 0 front changed) 0 ≡ tally_at rules front 0 = none_before rules (withdraws (slice_get changed 0)) (withdraws (slice_get front 0)) in
    subst (λ n. tally_at rules (joined_at n front changed) n ≡ tally_at rules front n) (sym first) at_first
tally_joined rules written changed front start like within (inr same) =
    let past = take_front front (drop start changed) start start (omega arith) within in
    let here : withdraws (slice_get (joined_at start front changed) start) ≡ withdraws (slice_get front start) =
    ap withdraws (get_after front changed start start within (omega arith)) ∙ same ∙ sym (same_withdrawal written front start like) in
    ap (λ w. tally rules w (reverse (take start (joined_at start front changed)))) here
    ∙ ap (λ (events : List Event). tally rules (withdraws (slice_get front start)) (reverse events)) past

-- a machine is before a place, and with a corrected front the events from there on are as they were
pub record IsReady (rules : Rules) (list : List (List ℕ)) (events : List Event) (place : ℕ) (machine : Machine) : Type 0 where
  pub front : List Event
  pub renumbered : AreRenumbered events front
  pub allowed : AreAllowedTo rules list front place
  pub following : (k : ℕ) → place ≤ k → slice_get front k ≡ slice_get events k
  pub by : rules_of machine ≡ rules
  pub state : state_of machine ≡ tally_at rules front place

-- a front of the one, joined with the other, is one of the other
pub front_like : (written changed front : List Event) (place start : ℕ) → AreRenumbered written front → IsStart written changed place start → start ≤ length written → start ≤ length changed
    → ((j : ℕ) → j < place → slice_get changed j ≡ slice_get written j) → AreRenumbered changed (joined_at start front changed)
front_like written changed front place start like is within long same =
    let enough : start ≤ length front = subst (λ n. start ≤ n) (sym like.as_many) within in
    let near = is.before in
    let all = length-append (take start front) (drop start changed) in
    let one = length-take-le start front enough in
    let other = length-drop start changed in
    record {
      as_many = omega (arith, all, one, other, long);
      each = λ k a b of_a of_b. each_joined written changed front start k a b like enough (λ j below. same j (omega (arith, near, below))) of_a of_b (cases_lt k start);
    }

pub front_allowed : (rules : Rules) (list : List (List ℕ)) (changed front : List Event) (start : ℕ) → start ≤ length front → AreAllowedTo rules list front start
    → AreAllowedTo rules list (joined_at start front changed) start
front_allowed rules list changed front start enough allowed k below =
    same_fault rules list front (joined_at start front changed) k (take_front front (drop start changed) start (k + 1) (omega (arith, below)) enough) ∙ allowed k below

-- a machine that is before a place of the one is ready there for the other
pub ready : (rules : Rules) (list : List (List ℕ)) (written changed : List Event) (place start : ℕ) (machine : Machine) → StandsBefore rules list written start machine
    → IsStart written changed place start → start ≤ length written → start ≤ length changed → ((j : ℕ) → j < place → slice_get changed j ≡ slice_get written j)
    → IsReady rules list changed start machine
ready rules list written changed place start machine at is within long same =
    let front = at.front in
    let enough : start ≤ length front = subst (λ n. start ≤ n) (sym at.renumbered.as_many) within in
    record {
      front = joined_at start front changed;
      renumbered = front_like written changed front place start at.renumbered is within long same;
      allowed = front_allowed rules list changed front start enough at.allowed;
      following = λ k following. get_after front changed start k enough following;
      by = at.by;
      state = at.state ∙ sym (tally_joined rules written changed front start at.renumbered enough is.same);
    }

pub moved : (rules : Rules) (list : List (List ℕ)) (written changed : List Event) (place start : ℕ) (machine : Machine) → StandsBefore rules list written start machine
    → IsStart written changed place start → start ≤ length written → start ≤ length changed → ((j : ℕ) → j < place → slice_get changed j ≡ slice_get written j)
    → StandsBefore rules list changed start machine
moved rules list written changed place start machine at is within long same =
    let new = ready rules list written changed place start machine at is within long same in
    record { front = new.front; renumbered = new.renumbered; allowed = new.allowed; by = new.by; state = new.state }

-- a machine that is before a place is ready there
pub ready_there : (rules : Rules) (list : List (List ℕ)) (events : List Event) (start : ℕ) (machine : Machine) → StandsBefore rules list events start machine → start ≤ length events
    → IsReady rules list events start machine
ready_there rules list events start machine at within =
    ready rules list events events start start machine at (record { before = omega arith; same = inr refl }) within within (λ j below. refl)

-- ---- from which place on a change is tried

pub starts_first : (written changed : List Event) → IsStart written changed 0 0
starts_first written changed = record { before = omega arith; same = inl refl }

pub starts_there : (written changed : List Event) (place : ℕ) → withdraws (slice_get changed place) ≡ withdraws (slice_get written place) → IsStart written changed place place
starts_there written changed place same = record { before = omega arith; same = inr same }

pub starts_before : (written changed : List Event) (place : ℕ) → 0 < place → ((k : ℕ) → k < place → slice_get changed k ≡ slice_get written k) → IsStart written changed place (place - 1)
starts_before written changed place some same = record { before = omega arith; same = inr (ap withdraws (same (place - 1) (omega (arith, some)))) }
