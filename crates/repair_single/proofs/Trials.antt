-- Going on with a machine from a place of some events, and giving each its right numbers.
use Rattle.std.proofs.Common.{◌≡◌, ◌⊎◌, inl, inr, ℕ, ◌+◌, ◌<◌, ◌≤◌, List, length, take, drop, slice_get, Option, Some, None, refl, sym, ap, ◌∙◌, subst, arith}
use Rattle.std.specs.Prelude.{true, false, Result, Ok, Err, IfErr, OnOk}
use Rattle.std.specs.Result.{is_err}
use Rattle.std.proofs.lemmas.Bool.{cases_lt}
use Rattle.std.proofs.lemmas.List.{length-append, length-drop, length-take-le}
use Rattle.std.proofs.lemmas.Option.{same_Some}
use Rattle.ref_tiles.specs.declared.rulebook.Rules.{Rules}
use Rattle.gcg_read.specs.declared.events.Event.{Event}
use Rattle.game_turns.specs.declared.faults.RuleFault.{RuleFault}
use Rattle.game_turns.specs.declared.machine.Machine.{Machine}
use Rattle.game_turns.specs.Answers.{Reports}
use Rattle.game_turns.specs.Laws.{NextTallyIsAfter}
use Rattle.game_turns.specs.Machines.{rules_of, state_of}
use Rattle.game_turns.specs.Places.{fault_of_event, fault_at}
use Rattle.game_turns.specs.Tallies.{State, tally_at}
use Rattle.game_corrections.specs.Corrections.{IsRenumbered, AreRenumbered, IsRemaining}
use Rattle.game_corrections.specs.Mending.{IsMendedAt, after_event, state_after}
use Rattle.game_corrections.proofs.Fronts.{itself, all_through, no_correction}
use Rattle.game_corrections.proofs.Sheets.{IsUpTo, some_event, before_kept, fault_mended, one_more, state_more}
use Rattle.repair_single.specs.Trying.{HaveNone, StandsBefore}
use Rattle.repair_single.proofs.Lists.{get_front, get_after}
use Rattle.repair_changes.specs.Laws.{FrontStays}
use Rattle.repair_changes.specs.Applied.{applied}
use Rattle.repair_changes.specs.declared.slips.Change.{Change}
use Rattle.repair_single.proofs.Starts.{joined_at, ready_there}

-- The events from a start on are corrected up to a place: with some front before the start the rules allow all before the place.
pub record GoesTo (rules : Rules) (list : List (List ℕ)) (old now : List Event) (start place : ℕ) (machine : Machine) : Type 0 where
  pub front : List Event
  pub up : IsUpTo rules list old front place
  pub there : (k : ℕ) → start ≤ k → slice_get front k ≡ slice_get now k
  pub long : length now ≡ length old
  pub by : rules_of machine ≡ rules
  pub state : state_of machine ≡ tally_at rules front place

-- ---- one more event is mended in the front too

each_mended : (front now new : List Event) (start k : ℕ) (a b : Event) → AreRenumbered now new → start ≤ length front
    → ((j : ℕ) → start ≤ j → slice_get front j ≡ slice_get now j) → slice_get front k ≡ Some a → slice_get (joined_at start front new) k ≡ Some b
    → (k < start) ⊎ (start ≤ k) → IsRenumbered a b
each_mended front now new start k a b like within there of_a of_b (inl below) =
    subst (IsRenumbered a) (same_Some a b (sym of_a ∙ sym (get_front front (drop start new) start k below within) ∙ of_b)) (itself a)
each_mended front now new start k a b like within there of_a of_b (inr following) =
    like.each k a b (sym (there k following) ∙ of_a) (sym (get_after front new start k within following) ∙ of_b)

other_kept : (front now new : List Event) (start place k : ℕ) → IsMendedAt now new place → start ≤ length front
    → ((j : ℕ) → start ≤ j → slice_get front j ≡ slice_get now j) → (k ≡ place → ⊥) → (k < start) ⊎ (start ≤ k) → slice_get (joined_at start front new) k ≡ slice_get front k
other_kept front now new start place k is within there other (inl below) = get_front front (drop start new) start k below within
other_kept front now new start place k is within there other (inr following) = get_after front new start k within following ∙ is.others k other ∙ sym (there k following)

pub front_mended : (front now new : List Event) (start place : ℕ) → IsMendedAt now new place → start ≤ length front → length now ≡ length front
    → ((j : ℕ) → start ≤ j → slice_get front j ≡ slice_get now j) → IsMendedAt front (joined_at start front new) place
front_mended front now new start place is within long there =
    let all = length-append (take start front) (drop start new) in
    let one = length-take-le start front within in
    let other = length-drop start new in
    let many = is.renumbered.as_many in
    record {
      renumbered = record {
        as_many = omega (arith, all, one, other, many, long, within);
        each = λ k a b of_a of_b. each_mended front now new start k a b is.renumbered within there of_a of_b (cases_lt k start);
      };
      others = λ k apart. other_kept front now new start place k is within there apart (cases_lt k start);
    }

one_front : (rules : Rules) (list : List (List ℕ)) (old front b : List Event) (place : ℕ) → IsUpTo rules list old front place → IsMendedAt front b place → AreRenumbered old b
one_front rules list old front b place up is = all_through old front b up.renumbered is.renumbered

same_after : (rules : Rules) (s : State) (b new : List Event) (place : ℕ) → slice_get b place ≡ slice_get new place → slice_get b (place + 1) ≡ slice_get new (place + 1)
    → state_after rules s new place ≡ state_after rules s b place
same_after rules s b new place here after =
    ap (λ (o : Option Event). after_event rules s o (slice_get new (place + 1))) (sym here) ∙ ap (after_event rules s (slice_get b place)) (sym after)

-- ---- where it begins

pub begun : (rules : Rules) (list : List (List ℕ)) (old : List Event) (start : ℕ) (machine next : Machine) → StandsBefore rules list old start machine → start ≤ length old
    → rules_of next ≡ rules_of machine → state_of next ≡ state_of machine → GoesTo rules list old old start start next
begun rules list old start machine next stands within same_rules same_state =
    let at = ready_there rules list old start machine stands within in
    record {
      front = at.front;
      up = record { renumbered = at.renumbered; allowed = at.allowed; untouched = at.following };
      there = at.following;
      long = refl;
      by = same_rules ∙ at.by;
      state = same_state ∙ at.state;
    }

-- ---- one more event

-- the fault of the event that was mended, in the front
reported_there : (rules : Rules) (list : List (List ℕ)) (old now new : List Event) (start place : ℕ) (machine : Machine) (o : Option RuleFault) (at : GoesTo rules list old now start place machine)
    → IsMendedAt now new place → start ≤ place → place < length old → o ≡ fault_of_event (rules_of machine) list (state_of machine) (slice_get new place)
    → fault_at rules list (joined_at start at.front new) place ≡ o
reported_there rules list old now new start place machine o at is near within reported =
    let many = at.up.renumbered.as_many in
    let enough : start ≤ length at.front = omega (arith, many, near, within) in
    let long : length now ≡ length at.front = at.long ∙ sym many in
    fault_mended rules (rules_of machine) list at.front (joined_at start at.front new) place (state_of machine) o (front_mended at.front now new start place is enough long at.there) at.by at.state
    (reported ∙ ap (fault_of_event (rules_of machine) list (state_of machine)) (sym (get_after at.front new start place enough near)))

-- if it is refused, there is no correction
pub refused : (rules : Rules) (list : List (List ℕ)) (old now new : List Event) (start place : ℕ) (machine : Machine) (why : RuleFault) → GoesTo rules list old now start place machine
    → IsMendedAt now new place → start ≤ place → place < length old → Some why ≡ fault_of_event (rules_of machine) list (state_of machine) (slice_get new place) → IsRemaining why
    → HaveNone rules list old
refused rules list old now new start place machine why at is near within reported remaining right writable =
    let many = at.up.renumbered.as_many in
    let enough : start ≤ length at.front = omega (arith, many, near, within) in
    let long : length now ≡ length at.front = at.long ∙ sym many in
    let mended = front_mended at.front now new start place is enough long at.there in
    let b = joined_at start at.front new in
    let fails = reported_there rules list old now new start place machine (Some why) at is near within reported in
    let long_b = mended.renumbered.as_many in
    let event = some_event b place (omega (arith, long_b, many, within)) in
    let up = one_front rules list old at.front b place at.up mended in
    no_correction rules list old b right place event.event why up (before_kept rules list old at.front b place at.up mended) event.stands fails remaining writable.points writable.correction

-- otherwise it goes on after it
pub went_on : NextTallyIsAfter → (rules : Rules) (list : List (List ℕ)) (old now new : List Event) (start place : ℕ) (machine next : Machine) → GoesTo rules list old now start place machine
    → IsMendedAt now new place → start ≤ place → place < length old → None ≡ fault_of_event (rules_of machine) list (state_of machine) (slice_get new place)
    → state_of next ≡ state_after (rules_of machine) (state_of machine) new place → rules_of next ≡ rules_of machine → GoesTo rules list old new start (place + 1) next
went_on law rules list old now new start place machine next at is near within reported state by =
    let many = at.up.renumbered.as_many in
    let enough : start ≤ length at.front = omega (arith, many, near, within) in
    let long : length now ≡ length at.front = at.long ∙ sym many in
    let mended = front_mended at.front now new start place is enough long at.there in
    let b = joined_at start at.front new in
    let none = reported_there rules list old now new start place machine None at is near within reported in
    let long_b = mended.renumbered.as_many in
    let event = some_event b place (omega (arith, long_b, many, within)) in
    let here = get_after at.front new start place enough near in
    let after = get_after at.front new start (place + 1) enough (omega (arith, near)) in
    record {
      front = b;
      up = one_more rules list old at.front b place at.up mended none;
      there = λ k following. get_after at.front new start k enough following;
      long = is.renumbered.as_many ∙ at.long;
      by = by ∙ at.by;
      state = state_more law rules (rules_of machine) list old at.front b place (state_of machine) (state_of next) event.event at.up mended event.stands none at.by at.state
          (state ∙ same_after (rules_of machine) (state_of machine) b new place here after);
    }

-- ---- the same by what mending the event gives

pub refused_by : {A : Type 0} (rules : Rules) (list : List (List ℕ)) (old now new : List Event) (start place : ℕ) (machine : Machine) (r : Result A RuleFault)
    → GoesTo rules list old now start place machine → IsMendedAt now new place → start ≤ place → place < length old → is_err r ≡ true
    → Reports r (fault_of_event (rules_of machine) list (state_of machine) (slice_get new place)) → IfErr r IsRemaining → HaveNone rules list old
refused_by rules list old now new start place machine (Ok a) at is near within err reported remaining = λ right writable. cc
refused_by rules list old now new start place machine (Err why) at is near within err reported remaining = refused rules list old now new start place machine why at is near within (sym reported) remaining

pub went_by : NextTallyIsAfter → {A : Type 0} (rules : Rules) (list : List (List ℕ)) (old now new : List Event) (start place : ℕ) (machine next : Machine) (r : Result A RuleFault)
    → GoesTo rules list old now start place machine → IsMendedAt now new place → start ≤ place → place < length old → is_err r ≡ false
    → Reports r (fault_of_event (rules_of machine) list (state_of machine) (slice_get new place)) → OnOk r (state_of next ≡ state_after (rules_of machine) (state_of machine) new place)
    → rules_of next ≡ rules_of machine → GoesTo rules list old new start (place + 1) next
went_by law rules list old now new start place machine next (Ok a) at is near within ok reported state by = went_on law rules list old now new start place machine next at is near within (sym reported) state by
went_by law rules list old now new start place machine next (Err why) at is near within ok reported state by = cc

-- ---- a change

pub by_own : (rules : Rules) (list : List (List ℕ)) (events : List Event) (place : ℕ) (machine : Machine) → StandsBefore rules list events place machine
    → StandsBefore (rules_of machine) list events place machine
by_own rules list events place machine at = subst (λ (r : Rules). StandsBefore r list events place machine) (sym at.by) at

pub none_for : (own rules : Rules) (list : List (List ℕ)) (changed right : List Event) → own ≡ rules → changed ≡ right → HaveNone own list changed → HaveNone rules list right
none_for own rules list changed right by is none =
    subst (λ (r : Rules). HaveNone r list right) by (subst (λ (es : List Event). HaveNone own list es) is none)

pub same_before : FrontStays → (change : Change) (written changed : List Event) → changed ≡ applied change written → (k : ℕ) → k < change.place → slice_get changed k ≡ slice_get written k
same_before law change written changed is k below = ap (λ (es : List Event). slice_get es k) is ∙ law change written k below
