-- Whether a record that was walked over passed.
use Rattle.std.proofs.Common.{◌≡◌, ℕ, Bool, false, is_some, List, length, Option, Some, None, refl, sym, ap, ◌∙◌, subst}
use Rattle.first_faults.proofs.CheckLaws.{some_fault}
use Rattle.std.proofs.lemmas.Option.{slice_get_within}
use Rattle.ref_tiles.specs.declared.rulebook.Rules.{Rules}
use Rattle.gcg_read.specs.declared.events.Event.{Event}
use Rattle.game_turns.specs.declared.machine.Machine.{Machine}
use Rattle.game_turns.specs.Machines.{state_of}
use Rattle.game_turns.specs.Tallies.{State, tally_at}
use Rattle.game_turns.specs.Places.{AreAllowed, IsFirstRefusal, is_finished}
use Rattle.game_walk.specs.declared.refusals.Refusal.{Refusal}
use Rattle.game_walk.specs.declared.walking.Walk.{Walk}
use Rattle.game_walk.specs.Refusals.{IsReportedRefusal}
use Rattle.game_walk.specs.Walks.{IsWalkOf, GoesThrough}
use Rattle.game_walk.proofs.WalkLaws.{through_written}

refused : (rules : Rules) (list : List (List ℕ)) (events : List Event) (r : Refusal) → IsFirstRefusal rules list events r.line r.why → AreAllowed rules list events → ⊥
refused rules list events r first allowed = some_fault r.why (sym first.fails ∙ allowed first.place (slice_get_within events first.place first.event first.stands))

pub not_allowed : (rules : Rules) (list : List (List ℕ)) (events : List Event) (walk : Walk) (r : Refusal) → IsWalkOf rules list events walk → walk.refused ≡ Some r → AreAllowed rules list events → ⊥
not_allowed rules list events walk r w is allowed = refused rules list events r (subst (IsReportedRefusal rules list events) is w.is.refused) allowed

pub all_allowed : (rules : Rules) (list : List (List ℕ)) (events : List Event) (walk : Walk) → IsWalkOf rules list events walk → walk.refused ≡ None → AreAllowed rules list events
all_allowed rules list events walk w none = subst (IsReportedRefusal rules list events) none w.is.refused

pub went_through : (rules : Rules) (list : List (List ℕ)) (events : List Event) (walk : Walk) → IsWalkOf rules list events walk → walk.refused ≡ None → GoesThrough rules list events walk
went_through rules list events walk w none = through_written rules list events w.right walk w.is none

none_of : (o : Option Refusal) (b : Bool) → b ≡ is_some o → b ≡ false → o ≡ None
none_of None b is off = refl
none_of (Some r) b is off = cc

-- whether the game is complete after the last event
pub finished_by : (rules : Rules) (list : List (List ℕ)) (events : List Event) (walk : Walk) (machine : Machine) (b complete : Bool) → IsWalkOf rules list events walk → b ≡ is_some walk.refused → b ≡ false
    → (GoesThrough rules list events walk → state_of machine ≡ tally_at rules events (length events)) → complete ≡ (state_of machine).complete → complete ≡ is_finished rules events
finished_by rules list events walk machine b complete w is off game reported =
    reported ∙ ap (λ (s : State). s.complete) (game (went_through rules list events walk w (none_of walk.refused b is off)))
