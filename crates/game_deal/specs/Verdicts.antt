-- What the verdicts on a record say, by the words of a list.
use Rattle.std.specs.Prelude.{◌≡◌, ℕ, ◌+◌, List, take, slice_get, Some, None}
use Rattle.std.specs.Option.{IsSomeAnd}
use Rattle.ref_tiles.specs.declared.rulebook.Rules.{Rules}
use Rattle.gcg_read.specs.declared.events.Event.{Event}
use Rattle.game_turns.specs.Places.{AreAllowed}
use Rattle.deal_steps.specs.declared.faults.DealBound.{DealBound}
use Rattle.deal_steps.specs.declared.deals.Held.{Held}
use Rattle.deal_steps.specs.Bounds.{first_bound}
use Rattle.deal_steps.specs.Fitting.{Fits}
use Rattle.deal_completion.specs.Completion.{dealt}
use Rattle.deal_cuts.specs.Cutting.{HasNoDeal}
use Rattle.deal_cuts.specs.declared.earlier.Earlier.{Earlier}
use Rattle.deal_search.specs.Settling.{IsKnownOf}
use Rattle.game_deal.specs.Recorded.{steps_of}
use Rattle.game_deal.specs.Plain.{HaveNoExchange}

-- A game: every event is allowed, and some deal of the tile set yields every rack.
pub record IsGame (rules : Rules) (list : List (List ℕ)) (events : List Event) : Type 0 where
  pub allowed : AreAllowed rules list events
  pub racks : List Held
  pub dealt : Fits rules (steps_of rules events) racks

-- Every event is allowed, and this is the first bound that is exceeded: so no deal fits.
pub record Exceeds (rules : Rules) (list : List (List ℕ)) (events : List Event) (bound : DealBound) : Type 0 where
  pub allowed : AreAllowed rules list events
  pub exceeded : first_bound rules (steps_of rules events) ≡ Some bound
  pub undealt : (racks : List Held) → Fits rules (steps_of rules events) racks → ⊥

-- The rule of completion gives a deal, and it fits: so some deal of the tile set yields every rack of the record.
abbrev pub IsDealt : Rules → List Event → Type 0
IsDealt rules events = IsSomeAnd (dealt rules (steps_of rules events)) (Fits rules (steps_of rules events))

-- Every event is allowed and no bound is exceeded, but the rule of completion gives no deal that fits. That happens
-- only for records with an exchange.
pub record IsUnsettled (rules : Rules) (list : List (List ℕ)) (events : List Event) : Type 0 where
  pub allowed : AreAllowed rules list events
  pub bounded : first_bound rules (steps_of rules events) ≡ None
  pub undealt : IsDealt rules events → ⊥
  pub exchanged : HaveNoExchange events → ⊥

-- Every event is allowed and no bound is exceeded, but no racks fit the steps up to the event on a line, that one included: so no
-- deal fits. This is known of the steps before it: that some racks fit them, or nothing.
pub record HasNoDealBy (rules : Rules) (list : List (List ℕ)) (events : List Event) (line : ℕ) (earlier : Earlier) : Type 0 where
  pub allowed : AreAllowed rules list events
  pub bounded : first_bound rules (steps_of rules events) ≡ None
  pub place : ℕ
  pub event : Event
  pub stands : slice_get events place ≡ Some event
  pub on_line : event.line ≡ line
  pub undealt : HasNoDeal rules (take (place + 1) (steps_of rules events))
  pub known : IsKnownOf rules (steps_of rules events) place earlier
