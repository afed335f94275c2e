-- A bound that the steps of a record exceed, and the first steps.
use Rattle.std.proofs.Common.{◌≡◌, ℕ, zero, suc, ◌+◌, Bool, true, false, cond, List, [], ◌∷◌, take, slice_get, Option, Some, None, refl, sym, ap, subst, ◌∙◌, arith}
use Rattle.std.specs.Option.{option_map, option_or}
use Rattle.ref_tiles.specs.Kinds.{kind_at}
use Rattle.ref_tiles.specs.declared.rulebook.Rules.{Rules}
use Rattle.gcg_read.specs.declared.events.Event.{Event}
use Rattle.gcg_read.specs.declared.events.Seat.{Seat}
use Rattle.game_turns.specs.Places.{AreAllowed}
use Rattle.deal_steps.specs.declared.faults.DealBound.{DealBound}
use Rattle.deal_steps.specs.declared.faults.DealBound.TheVariants as fault
use Rattle.deal_steps.specs.declared.steps.Act.{Act}
use Rattle.deal_steps.specs.declared.steps.Act.TheVariants as act
use Rattle.deal_steps.specs.declared.steps.Step.{Step}
use Rattle.deal_steps.specs.Bounds.{is_too_big, short_kind, bound_of, bound_for, bound_at, first_bound_after, first_bound}
use Rattle.deal_steps.specs.Laws.{FittingIsBounded}
use Rattle.deal_steps.specs.Runs.{Course, act_course, IsRunFrom, first_course, IsRun}
use Rattle.game_deal.specs.Laws.{bound_line, HasNoDealUpTo}
use Rattle.game_deal.specs.Recorded.{step_in, steps_after, steps_of}
use Rattle.game_deal.proofs.RecordRuns.{allowed_runs}

-- ---- the first steps of a run are a run

run_front : (c : Course) (n : ℕ) (steps : List Step) → IsRunFrom c steps → IsRunFrom c (take n steps)
run_front c zero [] run = tt
run_front c zero (s ∷ steps) run = tt
run_front c (suc n) [] run = tt
run_front c (suc n) (s ∷ steps) run = (run.0, run_front (act_course c s.player s.act) n steps run.1)

-- ---- the line of a bound is that of the step that exceeds it

short_line : (s : Step) (o : Option ℕ) (past : DealBound) → option_map (λ k. fault.TilesShort s.line (kind_at k)) o ≡ Some past → bound_line past ≡ s.line
short_line s None past e = absurd cc
short_line s (Some k) past e = let same : fault.TilesShort s.line (kind_at k) ≡ past = cc in ap bound_line (sym same)

line_of : (rules : Rules) (seat : Seat) (s : Step) (before : List Step) (past : DealBound) → bound_of rules seat s before ≡ Some past → bound_line past ≡ s.line
line_of rules seat s before past e = by (is_too_big seat s before) e
  where
    by : (big : Bool) → cond big (Some (fault.RackTooBig s.line)) (option_map (λ k. fault.TilesShort s.line (kind_at k)) (short_kind rules seat s before)) ≡ Some past
        → bound_line past ≡ s.line
    by true h = let same : fault.RackTooBig s.line ≡ past = cc in ap bound_line (sym same)
    by false h = short_line s (short_kind rules seat s before) past h

line_at : (rules : Rules) (s : Step) (before : List Step) (past : DealBound) → bound_at rules s before ≡ Some past → bound_line past ≡ s.line
unfolding bound_at
line_at rules s before past e = by s.act e
  where
    by : (a : Act) → bound_for rules s before a ≡ Some past → bound_line past ≡ s.line
    by (act.Turns shown what) h = line_of rules s.player s before past h
    by (act.TakesBack used) h = absurd cc
    by (act.Ends holder tiles) h = line_of rules holder s before past h
    by act.Rests h = absurd cc

-- ---- the step that exceeds a bound, and the steps up to it

record IsExceededAt (rules : Rules) (before steps : List Step) (past : DealBound) : Type 0 where
  place : ℕ
  step : Step
  stands : slice_get steps place ≡ Some step
  on_line : bound_line past ≡ step.line
  front : first_bound_after rules before (take (suc place) steps) ≡ Some past

exceeded_at : (rules : Rules) (before steps : List Step) (past : DealBound) → first_bound_after rules before steps ≡ Some past → IsExceededAt rules before steps past
exceeded_at rules before [] past e = absurd cc
exceeded_at rules before (s ∷ steps) past e = by (bound_at rules s before) refl e (exceeded_at rules (s ∷ before) steps past)
  where
    by : (here : Option DealBound) → bound_at rules s before ≡ here → option_or here (first_bound_after rules (s ∷ before) steps) ≡ Some past
        → (first_bound_after rules (s ∷ before) steps ≡ Some past → IsExceededAt rules (s ∷ before) steps past) → IsExceededAt rules before (s ∷ steps) past
    by (Some first) is h later =
        let same : first ≡ past = cc in
        record {
          place = 0;
          step = s;
          stands = refl;
          on_line = line_at rules s before past (is ∙ ap Some same);
          front = ap (λ (o : Option DealBound). option_or o (first_bound_after rules (s ∷ before) (take 0 steps))) is ∙ ap Some same;
        }
    by None is h later =
        let at = later h in
        record {
          place = suc at.place;
          step = at.step;
          stands = at.stands;
          on_line = at.on_line;
          front = ap (λ (o : Option DealBound). option_or o (first_bound_after rules (s ∷ before) (take (suc at.place) steps))) is ∙ at.front;
        }

-- ---- the event of a step

event_of : (rules : Rules) (before events : List Event) (place : ℕ) (s : Step) → slice_get (steps_after rules before events) place ≡ Some s
    → (e : Event) × (slice_get events place ≡ Some e) × (e.line ≡ s.line)
unfolding step_in
event_of rules before [] zero s is = absurd cc
event_of rules before [] (suc place) s is = absurd cc
event_of rules before (d ∷ events) zero s is =
    let line : Some d.line ≡ Some s.line = ap (option_map (λ (x : Step). x.line)) is in
    let same : d.line ≡ s.line = cc in
    (d, refl, same)
event_of rules before (d ∷ events) (suc place) s is = event_of rules (d ∷ before) events place s is

-- ---- no racks fit the steps up to the line

pub exceeding_up_to : FittingIsBounded → (rules : Rules) (list : List (List ℕ)) (events : List Event) (past : DealBound) → AreAllowed rules list events
    → first_bound rules (steps_of rules events) ≡ Some past → HasNoDealUpTo rules events (bound_line past)
exceeding_up_to law rules list events past allowed is =
    let at = exceeded_at rules [] (steps_of rules events) past is in
    let there = event_of rules [] events at.place at.step at.stands in
    let one : suc at.place ≡ at.place + 1 = omega arith in
    let run = subst (λ (n : ℕ). IsRun rules (take n (steps_of rules events))) one
    (run_front (first_course rules) (suc at.place) (steps_of rules events) (allowed_runs rules list events allowed)) in
    let front = subst (λ (n : ℕ). first_bound rules (take n (steps_of rules events)) ≡ Some past) one at.front in
    record {
      place = at.place;
      event = there.0;
      stands = there.1;
      on_line = there.2 ∙ sym at.on_line;
      undealt = λ deal fits. let both : Some past ≡ None = sym front ∙ law rules (take (at.place + 1) (steps_of rules events)) deal run fits in absurd cc;
    }
