-- What a walk says about events that the rules do not allow.
use Rattle.std.specs.Prelude.{◌≡◌, ℕ, List, Option, Some, None, length}
use Rattle.ref_tiles.specs.declared.rulebook.Rules.{Rules}
use Rattle.gcg_read.specs.declared.events.Event.{Event}
use Rattle.game_turns.specs.declared.faults.RuleFault.{RuleFault}
use Rattle.game_turns.specs.Places.{AreAllowed, IsFirstRefusal}
use Rattle.game_corrections.specs.Corrections.{IsCorrection, HavePoints, StopsAt}
use Rattle.game_walk.specs.declared.refusals.Refusal.{Refusal}
use Rattle.game_walk.specs.declared.refusals.Stop.{Stop}
use Rattle.game_walk.specs.Numbers.{numbers_in}

-- the first refusal: the earlier one if there is one, otherwise that of this event if it is refused
abbrev pub first_refusal : Option Refusal → (line : ℕ) → Option RuleFault → Option Refusal
first_refusal (Some refusal) line why = Some refusal
first_refusal None line (Some why) = Some (record { line = line; why = why })
first_refusal None line None = None

-- the event at which a correction stops
abbrev pub refusal_of : Option Stop → Option Refusal
refusal_of (Some stop) = Some stop.refusal
refusal_of None = None

-- the line of the event at which a correction stops
abbrev pub stop_line : Option Stop → Option ℕ
stop_line None = None
stop_line (Some stop) = Some stop.refusal.line

-- the first event that is refused, or that each is allowed
abbrev pub IsReportedRefusal : Rules → (list : List (List ℕ)) → List Event → Option Refusal → Type 0
IsReportedRefusal rules list events None = AreAllowed rules list events
IsReportedRefusal rules list events (Some refusal) = IsFirstRefusal rules list events refusal.line refusal.why

-- the correction stops at a place, at an event with these numbers, and the sheet has no correction that a record can write
pub record StopsThere (rules : Rules) (list : List (List ℕ)) (written right : List Event) (end : ℕ) (stop : Stop) : Type 0 where
  pub stops : StopsAt rules list written right stop.refusal.line stop.refusal.why
  pub there : stops.place ≡ end
  pub numbers : stop.numbers ≡ numbers_in stops.event
  pub none : (other : List Event) → HavePoints other → IsCorrection rules list written other → ⊥

-- where the correction ends: after the last event, or where it stops
abbrev pub EndsAt : Rules → (list : List (List ℕ)) → (written right : List Event) → (end : ℕ) → Option Stop → Type 0
EndsAt rules list written right end None = (end ≡ length written) × IsCorrection rules list written right
EndsAt rules list written right end (Some stop) = StopsThere rules list written right end stop
