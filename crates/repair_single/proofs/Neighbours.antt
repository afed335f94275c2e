-- Taking consecutive events among some events one after the other.
use Rattle.std.proofs.Common.{◌≡◌, ◌⊎◌, inl, inr, ℕ, ◌+◌, ◌-◌, ◌<◌, ◌≤◌, List, [], length, slice_get, Option, Some, refl, sym, ap, ◌∙◌, subst, arith}
use Rattle.std.specs.Prelude.{true, false, Result, Ok, Err, IfErr, OnOk}
use Rattle.std.specs.Result.{is_err}
use Rattle.std.proofs.lemmas.Bool.{cases_lt}
use Rattle.std.proofs.lemmas.Option.{same_Some}
use Rattle.ref_tiles.specs.declared.rulebook.Rules.{Rules}
use Rattle.gcg_read.specs.declared.events.Event.{Event}
use Rattle.game_turns.specs.declared.faults.RuleFault.{RuleFault}
use Rattle.game_turns.specs.declared.machine.Machine.{Machine}
use Rattle.game_turns.specs.Answers.{Reports}
use Rattle.game_turns.specs.Laws.{NextTallyIsAfter}
use Rattle.game_turns.specs.Machines.{rules_of, state_of}
use Rattle.game_turns.specs.Places.{fault_of_event}
use Rattle.game_turns.specs.Tallies.{State, tally_at, withdraws}
use Rattle.game_corrections.specs.Corrections.{IsRenumbered, IsRemaining}
use Rattle.game_corrections.specs.Mending.{IsMendedAt, after_event, state_after}
use Rattle.game_corrections.proofs.Fronts.{itself}
use Rattle.deal_steps.specs.declared.steps.Step.{Step}
use Rattle.game_deal.specs.Recorded.{step_in}
use Rattle.repair_single.specs.FirstSteps.{IsStepAt, IsNextStep, MayAddStep}
use Rattle.repair_single.specs.Nearby.{IsPart, AreStepsFrom, IsPartRefused, IsPartTaken}
use Rattle.repair_single.specs.Trying.{HaveNone, StandsBefore}
use Rattle.repair_single.proofs.FirstSteps.{got_last}
use Rattle.repair_single.proofs.Parts.{put, put_before, put_there, put_past, put_many}
use Rattle.repair_single.proofs.Trials.{GoesTo, begun, refused_by, went_by}

-- ---- consecutive events that are put among the events again

-- before them, among them, and after them
data Where (start many k : ℕ) : Type 0 where
  front : k < start → Where start many k
  inside : (j : ℕ) → j < many → k ≡ start + j → Where start many k
  past : (j : ℕ) → k ≡ start + many + j → Where start many k

where_by : (start many k : ℕ) → (k < start) ⊎ (start ≤ k) → (k < start + many) ⊎ (start + many ≤ k) → Where start many k
where_by start many k (inl below) at = front below
where_by start many k (inr from) (inl below) = inside (k - start) (omega (arith, from, below)) (omega (arith, from))
where_by start many k (inr from) (inr over) = past (k - (start + many)) (omega (arith, over))

where_is : (start many k : ℕ) → Where start many k
where_is start many k = where_by start many k (cases_lt k start) (cases_lt k (start + many))

put_same_by : (events near : List Event) (start k : ℕ) → IsPart events near start → Where start (length near) k → slice_get (put start near events) k ≡ slice_get events k
put_same_by events near start k part (front below) = let within = part.within in put_before start k near events (omega (arith, within)) below
put_same_by events near start k part (inside j below is) =
    let within = part.within in
    ap (slice_get (put start near events)) is ∙ put_there start j near events (omega (arith, within)) below ∙ sym (part.same j below) ∙ ap (slice_get events) (sym is)
put_same_by events near start k part (past j is) =
    let within = part.within in
    ap (slice_get (put start near events)) is ∙ put_past start j near events (omega (arith, within)) ∙ ap (slice_get events) (sym is)

put_same : (events near : List Event) (start k : ℕ) → IsPart events near start → slice_get (put start near events) k ≡ slice_get events k
put_same events near start k part = put_same_by events near start k part (where_is start (length near) k)

-- ---- one of them is mended

past_same : (events old new : List Event) (start j : ℕ) → start ≤ length events → length new ≡ length old
    → slice_get (put start new events) (start + length old + j) ≡ slice_get (put start old events) (start + length old + j)
past_same events old new start j within long =
    let at : start + length old + j ≡ start + length new + j = omega (arith, long) in
    ap (slice_get (put start new events)) at ∙ put_past start j new events within ∙ ap (slice_get events) (sym at) ∙ sym (put_past start j old events within)

each_put : (events old new : List Event) (start place k : ℕ) (a b : Event) → start + length old ≤ length events → IsMendedAt old new place
    → slice_get (put start old events) k ≡ Some a → slice_get (put start new events) k ≡ Some b → Where start (length old) k → IsRenumbered a b
each_put events old new start place k a b within is of_a of_b (front below) =
    subst (IsRenumbered a)
    (same_Some a b (sym of_a ∙ put_before start k old events (omega (arith, within)) below ∙ sym (put_before start k new events (omega (arith, within)) below) ∙ of_b)) (itself a)
each_put events old new start place k a b within is of_a of_b (inside j below at) =
    let long = is.renumbered.as_many in
    is.renumbered.each j a b (sym (put_there start j old events (omega (arith, within)) below) ∙ ap (slice_get (put start old events)) (sym at) ∙ of_a)
    (sym (put_there start j new events (omega (arith, within)) (omega (arith, below, long))) ∙ ap (slice_get (put start new events)) (sym at) ∙ of_b)
each_put events old new start place k a b within is of_a of_b (past j at) =
    subst (IsRenumbered a)
    (same_Some a b
    (sym of_a ∙ ap (slice_get (put start old events)) at ∙ sym (past_same events old new start j (omega (arith, within)) is.renumbered.as_many) ∙ ap (slice_get (put start new events)) (sym at) ∙ of_b))
    (itself a)

other_put : (events old new : List Event) (start place k : ℕ) → start + length old ≤ length events → IsMendedAt old new place → (k ≡ start + place → ⊥) → Where start (length old) k
    → slice_get (put start new events) k ≡ slice_get (put start old events) k
other_put events old new start place k within is apart (front below) =
    put_before start k new events (omega (arith, within)) below ∙ sym (put_before start k old events (omega (arith, within)) below)
other_put events old new start place k within is apart (inside j below at) =
    let long = is.renumbered.as_many in
    ap (slice_get (put start new events)) at ∙ put_there start j new events (omega (arith, within)) (omega (arith, below, long))
    ∙ is.others j (λ same. apart (omega (arith, at, same))) ∙ sym (put_there start j old events (omega (arith, within)) below) ∙ ap (slice_get (put start old events)) (sym at)
other_put events old new start place k within is apart (past j at) =
    ap (slice_get (put start new events)) at ∙ past_same events old new start j (omega (arith, within)) is.renumbered.as_many ∙ ap (slice_get (put start old events)) (sym at)

put_mended : (events old new : List Event) (start place : ℕ) → start + length old ≤ length events → IsMendedAt old new place → IsMendedAt (put start old events) (put start new events) (start + place)
put_mended events old new start place within is =
    let long = is.renumbered.as_many in
    let one = put_many start old events within in
    let other = put_many start new events (omega (arith, within, long)) in
    record {
      renumbered = record {
        as_many = other ∙ sym one;
        each = λ k a b of_a of_b. each_put events old new start place k a b within is of_a of_b (where_is start (length old) k);
      };
      others = λ k apart. other_put events old new start place k within is apart (where_is start (length old) k);
    }

-- ---- going on among them

pub record GoesNear (rules : Rules) (list : List (List ℕ)) (events first now : List Event) (start place : ℕ) (machine : Machine) (steps : List Step) : Type 0 where
  pub goes : GoesTo rules list events (put start now events) start (start + place) machine
  pub follow : AreStepsFrom rules list events start steps

-- The same wherever they are found and a machine has the game before them.
pub record GoAnywhere (rules : Rules) (list : List (List ℕ)) (first now : List Event) (old : Machine) (place : ℕ) (machine : Machine) (steps : List Step) : Type 0 where
  pub long : length now ≡ length first
  pub goes : (events : List Event) (start : ℕ) → IsPart events first start → StandsBefore rules list events start old → GoesNear rules list events first now start place machine steps

begun_near : (rules : Rules) (list : List (List ℕ)) (events first : List Event) (start : ℕ) (machine : Machine) → IsPart events first start → StandsBefore rules list events start machine
    → GoesTo rules list events (put start first events) start (start + 0) machine
begun_near rules list events first start machine part stands =
    let within = part.within in
    let at : start ≡ start + 0 = omega arith in
    let goes = begun rules list events start machine machine stands (omega (arith, within)) refl refl in
    subst (λ n. GoesTo rules list events (put start first events) start n machine) at
    (record {
      front = goes.front;
      up = goes.up;
      there = λ k following. goes.there k following ∙ sym (put_same events first start k part);
      long = put_many start first events within;
      by = goes.by;
      state = goes.state;
    })

pub begin_anywhere : (rules : Rules) (list : List (List ℕ)) (first : List Event) (machine : Machine) (steps : List Step) → steps ≡ [] → GoAnywhere rules list first first machine 0 machine steps
begin_anywhere rules list first machine steps none =
    record {
      long = refl;
      goes = λ events start part stands.
          record {
            goes = begun_near rules list events first start machine part stands;
            follow = λ k step there. let no = sym (ap (λ (ss : List Step). slice_get ss k) none) ∙ there in cc;
          };
    }

-- ---- one more

step_there : (rules : Rules) (list : List (List ℕ)) (events now : List Event) (start place : ℕ) (machine : Machine) (old new : List Step) → start + length now ≤ length events
    → place + 1 < length now → GoesTo rules list events (put start now events) start (start + place) machine → (is : IsNextStep (state_of machine) now place old new)
    → IsStepAt rules list events (start + place) (step_in (state_of machine) is.event (withdraws (slice_get now (place + 1))))
step_there rules list events now start place machine old new within below goes is =
    let next : start + place + 1 ≡ start + (place + 1) = omega arith in
    record {
      front = goes.front;
      renumbered = goes.up.renumbered;
      allowed = goes.up.allowed;
      event = is.event;
      there = goes.there (start + place) (omega arith) ∙ put_there start place now events (omega (arith, within)) (omega (arith, below)) ∙ is.there;
      is = ap (λ (s : State). step_in s is.event (withdraws (slice_get now (place + 1)))) goes.state
          ∙ ap (λ (o : Option Event). step_in (tally_at rules goes.front (start + place)) is.event (withdraws o))
          (sym (put_there start (place + 1) now events (omega (arith, within)) below) ∙ ap (slice_get (put start now events)) (sym next) ∙ sym (goes.there (start + place + 1) (omega arith)));
    }

steps_by : (rules : Rules) (list : List (List ℕ)) (events : List Event) (start place k : ℕ) (old : List Step) (own step : Step) → AreStepsFrom rules list events start old
    → IsStepAt rules list events (start + place) own → length old ≡ place → (slice_get old k ≡ Some step) ⊎ ((k ≡ length old) × (own ≡ step)) → IsStepAt rules list events (start + k) step
steps_by rules list events start place k old own step are at long (inl here) = are k step here
steps_by rules list events start place k old own step are at long (inr last) =
    let same : start + place ≡ start + k = let k_is = last.0 in omega (arith, k_is, long) in
    subst (λ (n : ℕ). IsStepAt rules list events n step) same (subst (λ (x : Step). IsStepAt rules list events (start + place) x) last.1 at)

noted_near : (rules : Rules) (list : List (List ℕ)) (events now : List Event) (start place : ℕ) (machine : Machine) (old new : List Step) → start + length now ≤ length events
    → place + 1 < length now → GoesTo rules list events (put start now events) start (start + place) machine → MayAddStep (state_of machine) now place old new
    → AreStepsFrom rules list events start old → AreStepsFrom rules list events start new
noted_near rules list events now start place machine old new within below goes (inl kept) are = subst (AreStepsFrom rules list events start) (sym kept) are
noted_near rules list events now start place machine old new within below goes (inr is) are =
    let own : Step = step_in (state_of machine) is.event (withdraws (slice_get now (place + 1))) in
    λ k step there.
    steps_by rules list events start place k old own step are (step_there rules list events now start place machine old new within below goes is) is.as_many
    (got_last old own k step (ap (λ (ss : List Step). slice_get ss k) (sym is.added) ∙ there))

reported_near : {A : Type 0} (r : Result A RuleFault) (own : Rules) (list : List (List ℕ)) (s : State) (events new : List Event) (start place : ℕ) → start + length new ≤ length events → place < length new
    → Reports r (fault_of_event own list s (slice_get new place)) → Reports r (fault_of_event own list s (slice_get (put start new events) (start + place)))
reported_near r own list s events new start place within below reported =
    subst (λ (o : Option Event). Reports r (fault_of_event own list s o)) (sym (put_there start place new events (omega (arith, within)) below)) reported

remaining_near : (own : Rules) (s : State) (events new : List Event) (start place : ℕ) → start + length new ≤ length events → place + 1 < length new
    → state_after own s new place ≡ state_after own s (put start new events) (start + place)
remaining_near own s events new start place within below =
    let next : start + place + 1 ≡ start + (place + 1) = omega arith in
    ap (λ (o : Option Event). after_event own s o (slice_get new (place + 1))) (sym (put_there start place new events (omega (arith, within)) (omega (arith, below))))
    ∙ ap (λ (o : Option Event). after_event own s (slice_get (put start new events) (start + place)) o)
    (sym (put_there start (place + 1) new events (omega (arith, within)) below) ∙ ap (slice_get (put start new events)) (sym next))

on_ok_near : {A : Type 0} {P Q : Type 0} (r : Result A RuleFault) → (P → Q) → OnOk r P → OnOk r Q
on_ok_near (Ok a) f has = f has
on_ok_near (Err why) f has = has

pub more_anywhere : NextTallyIsAfter → {A : Type 0} (rules : Rules) (list : List (List ℕ)) (first now new : List Event) (old machine next : Machine) (place : ℕ) (steps more : List Step)
    (r : Result A RuleFault) → GoAnywhere rules list first now old place machine steps → place < length first - 1 → MayAddStep (state_of machine) now place steps more → IsMendedAt now new place
    → is_err r ≡ false → Reports r (fault_of_event (rules_of machine) list (state_of machine) (slice_get new place))
    → OnOk r (state_of next ≡ state_after (rules_of machine) (state_of machine) new place) → rules_of next ≡ rules_of machine
    → GoAnywhere rules list first new old (place + 1) next more
more_anywhere law rules list first now new old machine next place steps more r at below noted mended ok reported state by =
    let long_now = at.long in
    let long_new = mended.renumbered.as_many in
    record {
      long = long_new ∙ long_now;
      goes = λ events start part stands.
          let within = part.within in
          let here = at.goes events start part stands in
          let step : start + place + 1 ≡ start + (place + 1) = omega arith in
          let on = went_by law rules list events (put start now events) (put start new events) start (start + place) machine next r here.goes
          (put_mended events now new start place (omega (arith, within, long_now)) mended) (omega arith) (omega (arith, within, below)) ok
          (reported_near r (rules_of machine) list (state_of machine) events new start place (omega (arith, within, long_now, long_new)) (omega (arith, below, long_now, long_new)) reported)
          (on_ok_near r (λ is. is ∙ remaining_near (rules_of machine) (state_of machine) events new start place (omega (arith, within, long_now, long_new)) (omega (arith, below, long_now, long_new))) state)
          by in
          record {
            goes = subst (λ n. GoesTo rules list events (put start new events) start n next) step on;
            follow = noted_near rules list events now start place machine steps more (omega (arith, within, long_now)) (omega (arith, below, long_now)) here.goes noted here.follow;
          };
    }

pub refused_anywhere : {A : Type 0} (rules : Rules) (list : List (List ℕ)) (first now new : List Event) (old machine : Machine) (place : ℕ) (steps : List Step) (r : Result A RuleFault)
    → GoAnywhere rules list first now old place machine steps → place < length first - 1 → IsMendedAt now new place → is_err r ≡ true
    → Reports r (fault_of_event (rules_of machine) list (state_of machine) (slice_get new place)) → IfErr r IsRemaining
    → (events : List Event) (start : ℕ) → IsPart events first start → StandsBefore rules list events start old → HaveNone rules list events
refused_anywhere rules list first now new old machine place steps r at below mended err reported remaining events start part stands =
    let long_now = at.long in
    let long_new = mended.renumbered.as_many in
    let within = part.within in
    let here = at.goes events start part stands in
    refused_by rules list events (put start now events) (put start new events) start (start + place) machine r here.goes
    (put_mended events now new start place (omega (arith, within, long_now)) mended) (omega arith) (omega (arith, within, below)) err
    (reported_near r (rules_of machine) list (state_of machine) events new start place (omega (arith, within, long_now, long_new)) (omega (arith, below, long_now, long_new)) reported) remaining

pub refused_part : {A : Type 0} (rules : Rules) (list : List (List ℕ)) (first now new : List Event) (old machine : Machine) (place : ℕ) (steps : List Step) (r : Result A RuleFault)
    → GoAnywhere rules list first now old place machine steps → place < length first - 1 → IsMendedAt now new place → is_err r ≡ true
    → Reports r (fault_of_event (rules_of machine) list (state_of machine) (slice_get new place)) → IfErr r IsRemaining → IsPartRefused rules list first old
refused_part rules list first now new old machine place steps r at below mended err reported remaining = refused_anywhere rules list first now new old machine place steps r at below mended err reported remaining

pub taken_part : (rules : Rules) (list : List (List ℕ)) (first now : List Event) (old machine : Machine) (place : ℕ) (steps : List Step) → GoAnywhere rules list first now old place machine steps
    → place ≡ length first - 1 → IsPartTaken rules list first old machine steps
taken_part rules list first now old machine place steps at all =
    record {
      stands = λ events start part stands.
          let goes = (at.goes events start part stands).goes in
          subst (λ n. StandsBefore rules list events (start + n) machine) all
          (record { front = goes.front; renumbered = goes.up.renumbered; allowed = goes.up.allowed; by = goes.by; state = goes.state });
      follow = λ events start part stands. (at.goes events start part stands).follow;
    }
