-- A change after which the game is soon as it was without it: what was wrong after that is wrong again.
use Rattle.std.proofs.Common.{◌≡◌, ◌⊎◌, inl, inr, ℕ, ◌+◌, ◌-◌, ◌<◌, ◌≤◌, List, ◌++◌, length, take, drop, slice_get, Option, Some, None, refl, sym, ap, ◌∙◌, subst, arith}
use Rattle.std.specs.Prelude.{true, Result, IfOk, Ok, Err}
use Rattle.std.specs.Option.{is_some}
use Rattle.std.proofs.lemmas.Bool.{cases_eq, cases_lt}
use Rattle.std.proofs.lemmas.Option.{slice_get_within}
use Rattle.ref_tiles.specs.declared.rulebook.Rules.{Rules}
use Rattle.gcg_read.specs.declared.events.Event.{Event}
use Rattle.game_turns.specs.declared.machine.Machine.{Machine}
use Rattle.game_turns.specs.Laws.{NextTallyIsAfter}
use Rattle.game_turns.specs.Machines.{rules_of, state_of}
use Rattle.game_turns.specs.Places.{AreAllowedTo, fault_at}
use Rattle.game_turns.specs.Tallies.{State, tally_at, withdraws}
use Rattle.game_turns.specs.Checks.{fault_in}
use Rattle.game_turns.proofs.PlaceLaws.{fault_here}
use Rattle.game_corrections.specs.Corrections.{AreRenumbered}
use Rattle.game_corrections.proofs.Fronts.{both_renumbered, fronts_agree, same_tally, no_correction}
use Rattle.game_walk.specs.declared.refusals.Stop.{Stop}
use Rattle.game_walk.specs.declared.walking.Walk.{Walk}
use Rattle.game_walk.specs.Refusals.{EndsAt}
use Rattle.game_walk.specs.Walks.{IsWalkOf}
use Rattle.deal_steps.specs.declared.steps.Step.{Step}
use Rattle.game_deal.specs.Recorded.{step_in}
use Rattle.repair_changes.specs.Applied.{applied, wrong_events, right_events}
use Rattle.repair_changes.specs.Splices.{spliced}
use Rattle.repair_changes.specs.declared.slips.Change.{Change}
use Rattle.repair_changes.specs.declared.slips.Slip.{Slip}
use Rattle.repair_single.specs.FirstSteps.{IsStepAt, AreFirstSteps}
use Rattle.repair_single.specs.Nearby.{IsNear, IsTakenNear}
use Rattle.repair_single.specs.RackStops.{MakeNoGame, StopsAgain}
use Rattle.repair_single.specs.Trying.{HaveNone, StandsBefore, IsStart}
use Rattle.repair_single.proofs.FirstSteps.{steps_before, within_take}
use Rattle.repair_single.proofs.Lists.{get_front, get_take}
use Rattle.repair_single.proofs.Parts.{AreNear, are_near, get_after, get_drop, get_in, get_past}
use Rattle.repair_single.proofs.Rejoining.{Meet, rejoined, rejoined_there, rejoined_like, are_level}
use Rattle.repair_single.proofs.Starts.{starts_first, starts_before}

-- ---- the events near a change

near_by : (changed near written : List Event) (start end m : ℕ) → AreNear start m changed near written → start + m ≡ end → end < length written → IsNear changed near written start end
near_by changed near written start end m are is enough =
    let long = are.long in
    let all = are.all in
    let last : length near - 1 ≡ are.inner = omega (arith, long) in
    record {
      part = record { within = omega (arith, long, all, is, enough); same = are.same };
      all = omega (arith, long, all, is);
      rest = λ i.
          ap (λ n. slice_get changed (start + n + i)) last ∙ are.rest i ∙ ap (λ n. slice_get written (n + i)) is;
    }

pub near_is : (change here : Change) (written slice near : List Event) (start end : ℕ) → start ≤ change.place → change.place + wrong_events change.slip ≤ end → end < length written
    → here.place ≡ change.place - start → here.slip ≡ change.slip → slice ≡ take (end + 1 - start) (drop start written) → near ≡ applied here slice
    → IsNear (applied change written) near written start end
near_is change here written slice near start end from within enough at same part is =
    let n = change.place - start in
    let m = end - start in
    let many = wrong_events change.slip in
    let size : end + 1 - start ≡ m + 1 = omega (arith, from, within) in
    let are = are_near start n change.place many m (right_events change.slip) written (omega (arith, from)) (omega (arith, from, within)) (omega (arith, from, within, enough)) in
    let by : near ≡ spliced n many (right_events change.slip) (take (m + 1) (drop start written)) =
    is ∙ ap (λ p. spliced p (wrong_events here.slip) (right_events here.slip) slice) at ∙ ap (λ (s : Slip). spliced n (wrong_events s) (right_events s) slice) same
    ∙ ap (λ (es : List Event). spliced n many (right_events change.slip) es) part ∙ ap (λ k. spliced n many (right_events change.slip) (take k (drop start written))) size in
    near_by (applied change written) near written start end m (subst (λ (es : List Event). AreNear start m (applied change written) es written) (sym by) are) (omega (arith, from, within)) enough

pub start_near : (written changed : List Event) (place start : ℕ) → start ≡ place - 1 → ((k : ℕ) → k < place → slice_get changed k ≡ slice_get written k) → (place ≡ 0) ⊎ (place ≡ 0 → ⊥)
    → IsStart written changed place start
start_near written changed place start is same (inl first) =
    let zero : start ≡ 0 = omega (arith, is, first) in
    subst (λ p. IsStart written changed p start) (sym first) (subst (λ s. IsStart written changed 0 s) (sym zero) (starts_first written changed))
start_near written changed place start is same (inr some) =
    let more : 0 < place = omega (arith, some) in
    subst (λ s. IsStart written changed place s) (sym is) (starts_before written changed place more same)

pub start_is : (written changed : List Event) (place start : ℕ) → start ≡ place - 1 → ((k : ℕ) → k < place → slice_get changed k ≡ slice_get written k) → IsStart written changed place start
start_is written changed place start is same = start_near written changed place start is same (cases_eq place 0)

pub stands_copy : (rules : Rules) (list : List (List ℕ)) (events : List Event) (place : ℕ) (game machine : Machine) → StandsBefore rules list events place game → rules_of machine ≡ rules_of game
    → state_of machine ≡ state_of game → StandsBefore rules list events place machine
stands_copy rules list events place game machine at by state =
    record { front = at.front; renumbered = at.renumbered; allowed = at.allowed; by = by ∙ at.by; state = state ∙ at.state }

-- ---- where the game is the same again

level_games : (rules : Rules) (list : List (List ℕ)) (written changed other : List Event) (at end more : ℕ) (machine game : Machine) → (taken : StandsBefore rules list changed at machine)
    → StandsBefore rules list written end game → state_of machine ≡ state_of game → AreRenumbered written other → AreAllowedTo rules list other (end + more) → end + more ≤ length written
    → tally_at rules taken.front at ≡ tally_at rules other end
level_games rules list written changed other at end more machine game taken stands same like allowed within =
    let both = both_renumbered written other stands.front like stands.renumbered in
    let long = like.as_many in
    let agree = fronts_agree rules list other stands.front end both (omega (arith, within, long)) (λ k below. allowed k (omega (arith, below))) stands.allowed in
    sym taken.state ∙ same ∙ stands.state ∙ same_tally rules other stands.front end both agree

meets : (rules : Rules) (list : List (List ℕ)) (written changed other : List Event) (start end many more : ℕ) (machine game : Machine) (steps : List Step)
    → (taken : IsTakenNear rules list written changed start end many machine steps) → StandsBefore rules list written end game → state_of machine ≡ state_of game
    → AreRenumbered written other → AreAllowedTo rules list other (end + more) → end + more ≤ length written
    → Meet rules list written changed taken.stands.front other (start + many) end more
meets rules list written changed other start end many more machine game steps taken stands same like allowed within =
    let inside = taken.is.part.within in
    let size = taken.as_many in
    let all = taken.is.all in
    record {
      like = taken.stands.renumbered;
      allowed = taken.stands.allowed;
      within = omega (arith, inside, size);
      other_like = like;
      other_allowed = allowed;
      other_within = within;
      game = level_games rules list written changed other (start + many) end more machine game taken.stands stands same like allowed within;
      rest = λ k. ap (λ n. slice_get changed (start + n + k)) (sym size) ∙ taken.is.rest k;
      as_many = omega (arith, all, size);
    }

-- ---- a later event is refused again

fault_again : (rules : Rules) (list : List (List ℕ)) (joined other : List Event) (n m : ℕ) (e : Event) → tally_at rules joined n ≡ tally_at rules other m → slice_get joined n ≡ Some e
    → slice_get other m ≡ Some e → fault_at rules list joined n ≡ fault_at rules list other m
fault_again rules list joined other n m e game of_joined of_other =
    fault_here rules list joined n e of_joined ∙ ap (λ (s : State). fault_in rules list s e) game ∙ sym (fault_here rules list other m e of_other)

refused_there : NextTallyIsAfter → (rules : Rules) (list : List (List ℕ)) (written changed right : List Event) (start end many place : ℕ) (machine game : Machine) (steps : List Step) (stop : Stop)
    → IsTakenNear rules list written changed start end many machine steps → StandsBefore rules list written end game → state_of machine ≡ state_of game → end ≤ place
    → EndsAt rules list written right place (Some stop) → HaveNone rules list changed
refused_there law rules list written changed right start end many place machine game steps stop taken stands same following ends other writable =
    let stops = ends.stops in
    let at = start + many in
    let more = place - end in
    let there = ends.there in
    let like = stops.before.renumbered in
    let long = like.as_many in
    let to : end + more ≡ stops.place = omega (arith, following, there) in
    let inside = slice_get_within right stops.place stops.event stops.stands in
    let allowed : AreAllowedTo rules list right (end + more) = subst (λ n. AreAllowedTo rules list right n) (sym to) stops.before.allowed in
    let meet = meets rules list written changed right start end many more machine game steps taken stands same like allowed (omega (arith, to, inside, long)) in
    let level = are_level law rules list written changed taken.stands.front right at end more more meet (omega arith) in
    let j = rejoined at taken.stands.front end right in
    let enough = meet.within in
    let front_long = meet.like.as_many in
    let here_other : slice_get right (end + more) ≡ Some stops.event = ap (slice_get right) to ∙ stops.stands in
    let here : slice_get j (at + more) ≡ Some stops.event = rejoined_there at end more taken.stands.front right (omega (arith, enough, front_long)) ∙ here_other in
    let fails = fault_again rules list j right (at + more) (end + more) stops.event level.game here here_other ∙ ap (fault_at rules list right) to ∙ stops.fails in
    no_correction rules list changed j other (at + more) stops.event stop.refusal.why (rejoined_like rules list written changed taken.stands.front right at end more meet) level.allowed here fails stops.remaining
    writable.points writable.correction

ends_by : (rules : Rules) (list : List (List ℕ)) (written right : List Event) (place : ℕ) (stopped : Option Stop) (stop : Stop) → stopped ≡ Some stop → EndsAt rules list written right place stopped
    → EndsAt rules list written right place (Some stop)
ends_by rules list written right place stopped stop is ends = subst (λ (o : Option Stop). EndsAt rules list written right place o) is ends

pub refused_again : NextTallyIsAfter → (rules : Rules) (list : List (List ℕ)) (written changed : List Event) (walk : Walk) (start end many : ℕ) (machine game : Machine) (steps : List Step) (stop : Stop)
    → IsWalkOf rules list written walk → walk.stopped ≡ Some stop → end ≤ length walk.rows.items → StandsBefore rules list written end game → state_of machine ≡ state_of game
    → IsTakenNear rules list written changed start end many machine steps → MakeNoGame rules list changed
refused_again law rules list written changed walk start end many machine game steps stop walked stopped within stands same taken =
    let is = walked.is in
    let rows = is.rows.as_many in
    let none = refused_there law rules list written changed walked.right start end many is.end machine game steps stop taken stands same (omega (arith, rows, within))
    (ends_by rules list written walked.right is.end walk.stopped stop stopped is.ends) in
    λ right writable game. none right writable

-- ---- the racks stop again

step_again : NextTallyIsAfter → (rules : Rules) (list : List (List ℕ)) (written changed : List Event) (start end many k : ℕ) (machine game : Machine) (steps : List Step) (step : Step)
    → IsTakenNear rules list written changed start end many machine steps → StandsBefore rules list written end game → state_of machine ≡ state_of game
    → IsStepAt rules list written (end + k) step → IsStepAt rules list changed (start + many + k) step
step_again law rules list written changed start end many k machine game steps step taken stands same own =
    let at = start + many in
    let other = own.front in
    let inside = slice_get_within other (end + k) own.event own.there in
    let long = own.renumbered.as_many in
    let meet = meets rules list written changed other start end many k machine game steps taken stands same own.renumbered own.allowed (omega (arith, inside, long)) in
    let level = are_level law rules list written changed taken.stands.front other at end k k meet (omega arith) in
    let j = rejoined at taken.stands.front end other in
    let enough = meet.within in
    let front_long = meet.like.as_many in
    let next : at + k + 1 ≡ at + (k + 1) = omega arith in
    let next_other : end + (k + 1) ≡ end + k + 1 = omega arith in
    let after : slice_get j (at + k + 1) ≡ slice_get other (end + k + 1) =
    ap (slice_get j) next ∙ rejoined_there at end (k + 1) taken.stands.front other (omega (arith, enough, front_long)) ∙ ap (slice_get other) next_other in
    record {
      front = j;
      renumbered = rejoined_like rules list written changed taken.stands.front other at end k meet;
      allowed = level.allowed;
      event = own.event;
      there = rejoined_there at end k taken.stands.front other (omega (arith, enough, front_long)) ∙ own.there;
      is = own.is ∙ ap (λ (s : State). step_in s own.event (withdraws (slice_get other (end + k + 1)))) (sym level.game)
          ∙ ap (λ (o : Option Event). step_in (tally_at rules j (at + k)) own.event (withdraws o)) (sym after);
    }

each_step : NextTallyIsAfter → (rules : Rules) (list : List (List ℕ)) (written changed : List Event) (kept first all : List Step) (start end many last k : ℕ) (machine game : Machine) (step : Step)
    → AreFirstSteps rules list written kept → IsTakenNear rules list written changed start end many machine first → StandsBefore rules list written end game → state_of machine ≡ state_of game
    → all ≡ take start kept ++ (first ++ take last (drop end kept)) → length first ≡ many → end ≤ length kept → start ≤ end
    → slice_get all k ≡ Some step → (k < start) ⊎ (start ≤ k) → (k < start + many) ⊎ (start + many ≤ k) → IsStepAt rules list changed k step
each_step law rules list written changed kept first all start end many last k machine game step are taken stands same is long within before there (inl below) at =
    let got : slice_get (take start kept) k ≡ Some step =
    get_take kept start k below ∙ sym (get_front kept (first ++ take last (drop end kept)) start k below (omega (arith, within, before))) ∙ ap (λ (ss : List Step). slice_get ss k) (sym is) ∙ there in
    steps_before rules list written changed start start kept are (record { before = omega arith; same = taken.starts }) taken.front k step got
each_step law rules list written changed kept first all start end many last k machine game step are taken stands same is long within before there (inr from) (inl less) =
    let j = k - start in
    let at : start + j ≡ k = omega (arith, from) in
    let got : slice_get first j ≡ Some step =
    sym (get_in first (take last (drop end kept)) j (omega (arith, from, less, long))) ∙ sym (get_after kept (first ++ take last (drop end kept)) start j (omega (arith, within, before)))
    ∙ ap (slice_get (take start kept ++ (first ++ take last (drop end kept)))) at ∙ ap (λ (ss : List Step). slice_get ss k) (sym is) ∙ there in
    subst (λ n. IsStepAt rules list changed n step) at (taken.follow j step got)
each_step law rules list written changed kept first all start end many last k machine game step are taken stands same is long within before there (inr from) (inr over) =
    let i = k - (start + many) in
    let rest = take last (drop end kept) in
    let at : start + (length first + i) ≡ k = omega (arith, over, long) in
    let to : start + many + i ≡ k = omega (arith, over) in
    let got : slice_get rest i ≡ Some step =
    sym (get_past first rest i) ∙ sym (get_after kept (first ++ rest) start (length first + i) (omega (arith, within, before))) ∙ ap (slice_get (take start kept ++ (first ++ rest))) at
    ∙ ap (λ (ss : List Step). slice_get ss k) (sym is) ∙ there in
    let inside = within_take (drop end kept) last i step got in
    let own : slice_get kept (end + i) ≡ Some step = sym (get_drop kept end i) ∙ sym (get_take (drop end kept) last i inside) ∙ got in
    subst (λ n. IsStepAt rules list changed n step) to (step_again law rules list written changed start end many i machine game first step taken stands same (are (end + i) step own))

pub stopped_again : NextTallyIsAfter → (rules : Rules) (list : List (List ℕ)) (written changed : List Event) (kept first : List Step) (start end many : ℕ) (machine game : Machine)
    → AreFirstSteps rules list written kept → StandsBefore rules list written end game → state_of machine ≡ state_of game → IsTakenNear rules list written changed start end many machine first
    → StopsAgain rules kept start many end first → MakeNoGame rules list changed
stopped_again law rules list written changed kept first start end many machine game are stands same taken stops =
    stops.none list changed
    (λ k step there.
    each_step law rules list written changed kept first stops.all start end many stops.around.last k machine game step are taken stands same stops.around.are stops.as_many stops.within stops.before there
    (cases_lt k start) (cases_lt k (start + many)))

-- ---- what a search for one gives

pub if_ok_then : {A E : Type 0} {P Q : A → Type 0} (r : Result A E) → ((a : A) → P a → Q a) → IfOk r P → IfOk r Q
if_ok_then (Ok a) f has = f a has
if_ok_then (Err why) f has = has

pub record HasStop (o : Option Stop) : Type 0 where
  pub stop : Stop
  pub is : o ≡ Some stop

pub some_stop : (o : Option Stop) → is_some o ≡ true → HasStop o
some_stop None is = cc
some_stop (Some stop) is = record { stop = stop; is = refl }
