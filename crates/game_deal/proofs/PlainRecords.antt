-- A record without exchanges has steps without exchanges.
use Rattle.std.proofs.Common.{◌≡◌, ℕ, Bool, true, false, List, [], ◌∷◌, refl, sym, subst, Option, Some, None, is_some, Result, Ok, Err, slice_get}
use Rattle.std.specs.Prelude.{if◌then◌else◌, IfOk, IsSomeAnd}
use Rattle.ref_tiles.specs.declared.rulebook.Rules.{Rules}
use Rattle.ref_play.specs.declared.placed.Placed.{Placed}
use Rattle.gcg_read.specs.declared.events.Event.{Event}
use Rattle.gcg_read.specs.declared.events.EventKind.{EventKind}
use Rattle.gcg_read.specs.declared.events.EventKind.TheVariants as kind
use Rattle.game_turns.specs.LatestEvents.{latest_tiles}
use Rattle.game_turns.specs.Standing.{is_withdraw}
use Rattle.game_turns.specs.Tallies.{State, tally, withdraws}
use Rattle.deal_steps.specs.declared.steps.Motion.TheVariants as motion
use Rattle.deal_steps.specs.declared.steps.Act.TheVariants as act
use Rattle.deal_steps.specs.declared.steps.Step.{Step}
use Rattle.deal_steps.specs.declared.deals.Held.{Held}
use Rattle.deal_steps.specs.Bounds.{first_bound}
use Rattle.deal_steps.specs.Fitting.{Fits}
use Rattle.deal_steps.specs.Runs.{IsRun}
use Rattle.game_turns.specs.Places.{AreAllowed}
use Rattle.game_deal.specs.Laws.{AllowedIsRun}
use Rattle.deal_steps.specs.Steps.{swaps}
use Rattle.deal_completion.specs.Plain.{IsPlain}
use Rattle.game_deal.specs.Recorded.{stated, taken_back_act, act_of, step_in, steps_after, steps_of}
use Rattle.game_deal.specs.Plain.{is_exchange, HaveNoExchange}

pass_plain : (out : Bool) (shown : List ℕ) → swaps (if out then act.Rests else act.Turns shown motion.Keeps) ≡ false
pass_plain true shown = refl
pass_plain false shown = refl

taken_plain : (tiles : Option (List Placed)) → swaps (taken_back_act tiles) ≡ false
taken_plain None = refl
taken_plain (Some tiles) = refl

act_plain : (s : State) (e : Event) (what : EventKind) (w : Bool) → is_exchange what ≡ false → swaps (act_of s e what w) ≡ false
act_plain s e (kind.Play at dir word) true none = refl
act_plain s e (kind.Play at dir word) false none = refl
act_plain s e kind.Pass w none = pass_plain (is_some s.out) (stated e.rack)
act_plain s e (kind.Exchange tiles) w none = cc
act_plain s e (kind.ExchangeUnknown n) w none = cc
act_plain s e kind.Withdraw w none = taken_plain (latest_tiles s.latest)
act_plain s e kind.Challenge w none = refl
act_plain s e kind.Time w none = refl
act_plain s e (kind.LastRack tiles) w none = refl

step_plain : (s : State) (e : Event) (w : Bool) → is_exchange e.kind ≡ false → swaps (step_in s e w).act ≡ false
unfolding step_in
step_plain s e w none = act_plain s e e.kind w none

pub plain_steps : (rules : Rules) (past events : List Event) → HaveNoExchange events → IsPlain (steps_after rules past events)
plain_steps rules past [] none = tt
plain_steps rules past (e ∷ events) none =
    (step_plain (tally rules (is_withdraw e.kind) past) e (withdraws (slice_get events 0)) none.0, plain_steps rules (e ∷ past) events none.1)

-- ---- by given rules and steps

pub run_given : AllowedIsRun → (rules own : Rules) (list : List (List ℕ)) (events : List Event) (steps : List Step) → own ≡ rules → steps ≡ steps_of rules events → AreAllowed rules list events
    → IsRun own steps
run_given law rules own list events steps same_rules same_steps allowed =
    subst (λ r. IsRun r steps) (sym same_rules) (subst (λ xs. IsRun rules xs) (sym same_steps) (law rules list events allowed))

pub plain_given : {E : Type 0} (r : Result (Option (List Held)) E) (rules own : Rules) (events : List Event) (steps : List Step) → own ≡ rules → steps ≡ steps_of rules events
    → first_bound rules (steps_of rules events) ≡ None → IfOk r (λ deal. IsPlain steps → first_bound own steps ≡ None → IsSomeAnd deal (Fits own steps))
    → IfOk r (λ deal. HaveNoExchange events → IsSomeAnd deal (Fits rules (steps_of rules events)))
plain_given (Err e) rules own events steps same_rules same_steps bounded reported = tt
plain_given (Ok deal) rules own events steps same_rules same_steps bounded reported =
    let P : Rules → List Step → Type 0 = λ r xs. IsPlain xs → first_bound r xs ≡ None → IsSomeAnd deal (Fits r xs) in
    let by_rules : P rules steps = subst (λ r. P r steps) same_rules reported in
    let all : P rules (steps_of rules events) = subst (P rules) same_steps by_rules in
    λ none. all (plain_steps rules [] events none) bounded
