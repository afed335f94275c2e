-- The steps of the first events of a record are those of each correction: if no racks fit them, the record makes no game.
use Rattle.std.proofs.Common.{◌≡◌, ◌⊎◌, inl, inr, ℕ, ℤ, zero, suc, ◌+◌, ◌<◌, ◌≤◌, Bool, true, List, [], ◌∷◌, ◌++◌, length, take, drop, get_or, slice_get, Option, Some, None, refl, sym, ap, ◌∙◌, subst, arith}
use Rattle.std.specs.Option.{is_some, option_or}
use Rattle.std.proofs.lemmas.Bool.{cases_lt}
use Rattle.std.proofs.lemmas.List.{length-take, take_all}
use Rattle.std.proofs.lemmas.Option.{slice_get_within, slice_get-get_or}
use Rattle.ref_tiles.specs.declared.rulebook.Rules.{Rules}
use Rattle.gcg_read.specs.declared.events.Seat.{Seat}
use Rattle.gcg_read.specs.declared.events.Event.{Event}
use Rattle.gcg_read.specs.declared.events.EventKind.{EventKind}
use Rattle.gcg_read.specs.declared.events.EventKind.TheVariants as kind
use Rattle.game_turns.specs.declared.machine.Machine.{Machine}
use Rattle.game_turns.specs.Machines.{state_of}
use Rattle.game_turns.specs.Tallies.{State, tally_at, withdraws}
use Rattle.game_turns.proofs.TallyLaws.{made}
use Rattle.game_corrections.specs.Corrections.{IsRenumbered, AreRenumbered}
use Rattle.game_corrections.proofs.Fronts.{both_renumbered, fronts_agree, same_tally, same_withdrawal}
use Rattle.game_corrections.proofs.Sheets.{some_event}
use Rattle.deal_steps.specs.declared.steps.Step.{Step}
use Rattle.deal_steps.specs.Bounds.{bound_at, first_bound, first_bound_after}
use Rattle.deal_steps.specs.Fitting.{Fits}
use Rattle.deal_cuts.specs.Cutting.{HasNoDeal}
use Rattle.deal_cuts.specs.Laws.{FrontsFit}
use Rattle.game_deal.specs.Laws.{FittingIsBounded}
use Rattle.game_deal.specs.Recorded.{step_in, steps_of}
use Rattle.game_deal.proofs.StepLaws.{step_is}
use Rattle.repair_single.specs.FirstSteps.{IsStepAt, AreFirstSteps, IsNextStep, MayAddStep}
use Rattle.repair_single.specs.RackStops.{NoneWith, IsStop, steps_in}
use Rattle.repair_single.specs.declared.rack_stops.RackStop.{RackStop}
use Rattle.repair_single.specs.Trying.{IsStart, IsWritable}
use Rattle.repair_single.proofs.Lists.{get_take, get_front, get_after, same_take, take_front, past_of}
use Rattle.repair_single.proofs.Fronts.{same_tally as tally_of_front, same_fault}
use Rattle.repair_single.proofs.Starts.{joined_at, front_like, IsReady}
use Rattle.repair_single.proofs.Trials.{GoesTo}

-- ---- the step of an event depends on none of its numbers

step_kept : (s : State) (line : ℕ) (player : Seat) (rack : Option (List ℕ)) (what : EventKind) (a b x y : ℤ) (w : Bool)
    → step_in s (made line player rack what a x) w ≡ step_in s (made line player rack what b y) w
unfolding step_in
step_kept s line player rack (kind.Play at dir word) a b x y w = refl
step_kept s line player rack kind.Pass a b x y w = refl
step_kept s line player rack (kind.Exchange tiles) a b x y w = refl
step_kept s line player rack (kind.ExchangeUnknown n) a b x y w = refl
step_kept s line player rack kind.Withdraw a b x y w = refl
step_kept s line player rack kind.Challenge a b x y w = refl
step_kept s line player rack kind.Time a b x y w = refl
step_kept s line player rack (kind.LastRack tiles) a b x y w = refl

same_step : (s : State) (e r : Event) (w : Bool) → IsRenumbered e r → step_in s r w ≡ step_in s e w
same_step s e r w is =
    ap (λ (l : ℕ). step_in s (made l r.player r.rack r.kind r.score r.total) w) is.line
    ∙ ap (λ (p : Seat). step_in s (made e.line p r.rack r.kind r.score r.total) w) is.player
    ∙ ap (λ (k : Option (List ℕ)). step_in s (made e.line e.player k r.kind r.score r.total) w) is.rack
    ∙ ap (λ (k : EventKind). step_in s (made e.line e.player e.rack k r.score r.total) w) is.kind
    ∙ step_kept s e.line e.player e.rack e.kind r.score e.score r.total e.total w

-- ---- each correction has these steps

step_of_right : (rules : Rules) (list : List (List ℕ)) (events right : List Event) (k : ℕ) (step : Step) → IsStepAt rules list events k step → IsWritable rules list events right
    → slice_get (steps_of rules right) k ≡ Some step
step_of_right rules list events right k step at writable =
    let front = at.front in
    let like : AreRenumbered front right = both_renumbered events front right at.renumbered writable.correction.renumbered in
    let within = slice_get_within front k at.event at.there in
    let long = like.as_many in
    let agree : take k right ≡ take k front =
    fronts_agree rules list front right k like (omega (arith, within)) at.allowed (λ j below. writable.correction.allowed j (omega (arith, below, within, long))) in
    let r = get_or right k at.event in
    let there : slice_get right k ≡ Some r = slice_get-get_or right k at.event (omega (arith, within, long)) in
    let s = tally_at rules front k in
    let w = withdraws (slice_get front (k + 1)) in
    step_is rules right k r s w step there (sym (same_tally rules front right k like agree)) (sym (same_withdrawal front right (k + 1) like))
    (at.is ∙ sym (same_step s at.event r w (like.each k at.event r at.there there)))

same_at : (rules : Rules) (list : List (List ℕ)) (events right : List Event) (steps : List Step) (k : ℕ) (o : Option Step) → AreFirstSteps rules list events steps → IsWritable rules list events right
    → k < length steps → slice_get steps k ≡ o → slice_get steps k ≡ slice_get (steps_of rules right) k
same_at rules list events right steps k None are writable below is = let past = past_of steps k is in absurd (omega (arith, past, below))
same_at rules list events right steps k (Some x) are writable below is = is ∙ sym (step_of_right rules list events right k x (are k x is) writable)

steps_of_right : (rules : Rules) (list : List (List ℕ)) (events right : List Event) (steps : List Step) → AreFirstSteps rules list events steps → IsWritable rules list events right
    → steps ≡ take (length steps) (steps_of rules right)
steps_of_right rules list events right steps are writable =
    sym (take_all (length steps) steps (omega arith))
    ∙ same_take steps (steps_of rules right) (length steps) (λ k below. same_at rules list events right steps k (slice_get steps k) are writable below refl)

-- ---- if no racks fit them, there is no game

neither : {X : Type 0} (a b : Option X) → option_or a b ≡ None → (a ≡ None) × (b ≡ None)
neither None b none = (refl, none)
neither (Some x) b none = cc

bound_before : (rules : Rules) (past steps : List Step) (n : ℕ) → first_bound_after rules past steps ≡ None → first_bound_after rules past (take n steps) ≡ None
bound_before rules past [] zero none = refl
bound_before rules past [] (suc n) none = refl
bound_before rules past (s ∷ steps) zero none = refl
bound_before rules past (s ∷ steps) (suc n) none =
    let both = neither (bound_at rules s past) (first_bound_after rules (s ∷ past) steps) none in
    ap (λ o. option_or o (first_bound_after rules (s ∷ past) (take n steps))) both.0 ∙ bound_before rules (s ∷ past) steps n both.1

pub none_bounded : FittingIsBounded → (rules : Rules) (steps : List Step) → is_some (first_bound rules steps) ≡ true → NoneWith rules steps
none_bounded law rules steps exceeds list events are right writable game =
    let own : first_bound rules steps ≡ None =
    ap (λ (ss : List Step). first_bound rules ss) (steps_of_right rules list events right steps are writable)
    ∙ bound_before rules [] (steps_of rules right) (length steps) (law rules list right game.racks game.allowed game.dealt) in
    cc

pub none_cut : FrontsFit → (rules : Rules) (steps : List Step) → HasNoDeal rules steps → NoneWith rules steps
none_cut law rules steps none list events are right writable game =
    none (take (length steps) game.racks)
    (subst (λ (ss : List Step). Fits rules ss (take (length steps) game.racks)) (sym (steps_of_right rules list events right steps are writable))
    (law rules (steps_of rules right) game.racks (length steps) game.dealt))

-- ---- a record that begins as another one has the same first steps

step_moved : (rules : Rules) (list : List (List ℕ)) (written changed : List Event) (k : ℕ) (step : Step) → IsStepAt rules list written k step
    → ((j : ℕ) → j < k + 1 → slice_get changed j ≡ slice_get written j) → withdraws (slice_get changed (k + 1)) ≡ withdraws (slice_get written (k + 1)) → IsStepAt rules list changed k step
step_moved rules list written changed k step at same next =
    let front = at.front in
    let rest = drop (k + 1) changed in
    let f = joined_at (k + 1) front changed in
    let within = slice_get_within front k at.event at.there in
    let long = at.renumbered.as_many in
    let own = some_event written k (omega (arith, within, long)) in
    let enough = slice_get_within changed k own.event (same k (omega arith) ∙ own.stands) in
    record {
      front = f;
      renumbered = front_like written changed front (k + 1) (k + 1) at.renumbered (record { before = omega arith; same = inr next }) (omega (arith, within, long)) (omega (arith, enough)) same;
      allowed = λ j below. same_fault rules list front f j (take_front front rest (k + 1) (j + 1) (omega (arith, below)) (omega (arith, within))) ∙ at.allowed j below;
      event = at.event;
      there = get_front front rest (k + 1) k (omega arith) (omega (arith, within)) ∙ at.there;
      is = at.is
          ∙ ap (λ (s : State). step_in s at.event (withdraws (slice_get front (k + 1)))) (sym (tally_of_front rules front f k (take_front front rest (k + 1) (k + 1) (omega arith) (omega (arith, within)))))
          ∙ ap (λ (w : Bool). step_in (tally_at rules f k) at.event w)
          (sym (ap withdraws (get_after front changed (k + 1) (k + 1) (omega (arith, within)) (omega arith)) ∙ next ∙ sym (same_withdrawal written front (k + 1) at.renumbered)));
    }

next_same : (written changed : List Event) (place start k : ℕ) → IsStart written changed place start → ((j : ℕ) → j < place → slice_get changed j ≡ slice_get written j) → k < start
    → (start ≡ 0) ⊎ (withdraws (slice_get changed start) ≡ withdraws (slice_get written start)) → (k + 1 < place) ⊎ (place ≤ k + 1)
    → withdraws (slice_get changed (k + 1)) ≡ withdraws (slice_get written (k + 1))
next_same written changed place start k is same below at (inl less) = ap withdraws (same (k + 1) less)
next_same written changed place start k is same below (inl first) (inr past) = absurd (omega (arith, first, below))
next_same written changed place start k is same below (inr there) (inr past) =
    let near = is.before in
    let last : start ≡ k + 1 = omega (arith, near, past, below) in
    subst (λ n. withdraws (slice_get changed n) ≡ withdraws (slice_get written n)) last there

pub within_take : {X : Type 0} (xs : List X) (n k : ℕ) (x : X) → slice_get (take n xs) k ≡ Some x → k < n
within_take xs n k x there =
    let within = slice_get_within (take n xs) k x there in
    let long = length-take n xs in
    omega (arith, within, long)

pub steps_before : (rules : Rules) (list : List (List ℕ)) (written changed : List Event) (place start : ℕ) (steps : List Step) → AreFirstSteps rules list written steps
    → IsStart written changed place start → ((j : ℕ) → j < place → slice_get changed j ≡ slice_get written j) → AreFirstSteps rules list changed (take start steps)
steps_before rules list written changed place start steps are is same k step there =
    let below : k < start = within_take steps start k step there in
    let near = is.before in
    step_moved rules list written changed k step (are k step (sym (get_take steps start k below) ∙ there)) (λ j less. same j (omega (arith, less, below, near)))
    (next_same written changed place start k is same below is.same (cases_lt (k + 1) place))

-- ---- one more step

pub got_last : {X : Type 0} (xs : List X) (y : X) (k : ℕ) (x : X) → slice_get (xs ++ y ∷ []) k ≡ Some x → (slice_get xs k ≡ Some x) ⊎ ((k ≡ length xs) × (y ≡ x))
got_last [] y zero x there = inr (refl, cc)
got_last [] y (suc k) x there = cc
got_last (z ∷ xs) y zero x there = inl there
got_last (z ∷ xs) y (suc k) x there = further (got_last xs y k x there)
  where
    further : (slice_get xs k ≡ Some x) ⊎ ((k ≡ length xs) × (y ≡ x)) → (slice_get xs k ≡ Some x) ⊎ ((suc k ≡ suc (length xs)) × (y ≡ x))
    further (inl here) = inl here
    further (inr last) = inr (ap suc last.0, last.1)

ready_step : (rules : Rules) (list : List (List ℕ)) (old now : List Event) (place : ℕ) (machine : Machine) (steps new : List Step) → IsReady rules list old place machine
    → ((k : ℕ) → place ≤ k → slice_get now k ≡ slice_get old k) → (is : IsNextStep (state_of machine) now place steps new)
    → IsStepAt rules list old place (step_in (state_of machine) is.event (withdraws (slice_get now (place + 1))))
ready_step rules list old now place machine steps new at same is =
    record {
      front = at.front;
      renumbered = at.renumbered;
      allowed = at.allowed;
      event = is.event;
      there = at.following place (omega arith) ∙ sym (same place (omega arith)) ∙ is.there;
      is = ap (λ (s : State). step_in s is.event (withdraws (slice_get now (place + 1)))) at.state
          ∙ ap (λ (o : Option Event). step_in (tally_at rules at.front place) is.event (withdraws o)) (same (place + 1) (omega arith) ∙ sym (at.following (place + 1) (omega arith)));
    }

abbrev next_of : (s : State) (events : List Event) (place : ℕ) (old new : List Step) → IsNextStep s events place old new → Step
next_of s events place old new is = step_in s is.event (withdraws (slice_get events (place + 1)))

by_place : (rules : Rules) (list : List (List ℕ)) (old now : List Event) (place : ℕ) (machine : Machine) (steps new : List Step) → IsReady rules list old place machine
    → ((k : ℕ) → place ≤ k → slice_get now k ≡ slice_get old k) → (is : IsNextStep (state_of machine) now place steps new) → AreFirstSteps rules list old steps → (k : ℕ) (step : Step)
    → (slice_get steps k ≡ Some step) ⊎ ((k ≡ length steps) × (next_of (state_of machine) now place steps new is ≡ step)) → IsStepAt rules list old k step
by_place rules list old now place machine steps new at same is are k step (inl here) = are k step here
by_place rules list old now place machine steps new at same is are k step (inr last) =
    subst (λ (n : ℕ). IsStepAt rules list old n step) (sym (last.0 ∙ is.as_many))
    (subst (λ (x : Step). IsStepAt rules list old place x) last.1 (ready_step rules list old now place machine steps new at same is))

pub noted : (rules : Rules) (list : List (List ℕ)) (old now : List Event) (place : ℕ) (machine : Machine) (steps new : List Step) → IsReady rules list old place machine
    → ((k : ℕ) → place ≤ k → slice_get now k ≡ slice_get old k) → MayAddStep (state_of machine) now place steps new → AreFirstSteps rules list old steps → AreFirstSteps rules list old new
noted rules list old now place machine steps new at same (inl kept) are = subst (AreFirstSteps rules list old) (sym kept) are
noted rules list old now place machine steps new at same (inr is) are =
    λ k step there.
    by_place rules list old now place machine steps new at same is are k step (got_last steps (next_of (state_of machine) now place steps new is) k step (ap (λ (ss : List Step). slice_get ss k) (sym is.added) ∙ there))

-- a walk that goes on from a place
pub noted_going : (rules : Rules) (list : List (List ℕ)) (old now : List Event) (start place : ℕ) (machine : Machine) (steps new : List Step) → GoesTo rules list old now start place machine
    → start ≤ place → MayAddStep (state_of machine) now place steps new → AreFirstSteps rules list old steps → AreFirstSteps rules list old new
noted_going rules list old now start place machine steps new at near more are =
    noted rules list old now place machine steps new
    (record { front = at.front; renumbered = at.up.renumbered; allowed = at.up.allowed; following = at.up.untouched; by = at.by; state = at.state })
    (λ k following. sym (at.there k (omega (arith, near, following))) ∙ at.up.untouched k following) more are

-- ---- the steps that are kept with a stop

pub kept_first : (rules : Rules) (list : List (List ℕ)) (written : List Event) (stop : Option RackStop) → IsStop rules list written stop → AreFirstSteps rules list written (steps_in stop)
kept_first rules list written None is = λ k step there. cc
kept_first rules list written (Some stop) is = is.first

pub first_for : (own rules : Rules) (list : List (List ℕ)) (changed events : List Event) (steps first : List Step) → own ≡ rules → changed ≡ events → steps ≡ first → AreFirstSteps own list changed steps
    → AreFirstSteps rules list events first
first_for own rules list changed events steps first by is same are =
    subst (λ (r : Rules). AreFirstSteps r list events first) by
    (subst (λ (es : List Event). AreFirstSteps own list es first) is (subst (AreFirstSteps own list changed) same are))

pub kept_before : (own rules : Rules) (list : List (List ℕ)) (written changed : List Event) (place start : ℕ) (stop : Option RackStop) (first : List Step) → own ≡ rules → first ≡ take start (steps_in stop)
    → IsStop rules list written stop → IsStart written changed place start → ((j : ℕ) → j < place → slice_get changed j ≡ slice_get written j) → AreFirstSteps own list changed first
kept_before own rules list written changed place start stop first by is stopped starts same =
    first_for rules own list changed changed (take start (steps_in stop)) first (sym by) refl (sym is)
    (steps_before rules list written changed place start (steps_in stop) (kept_first rules list written stop stopped) starts same)
