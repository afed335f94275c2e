-- The correction of a sheet: the same events, with the scores and totals that the rules give.
use Rattle.std.specs.Prelude.{◌≡◌, ◌⊎◌, ℕ, ℤ, ◌<◌, Bool, true, false, List, length, slice_get, Option, Some, None}
use Rattle.std.specs.Option.{option_or}
use Rattle.ref_tiles.specs.declared.rulebook.Rules.{Rules}
use Rattle.gcg_read.specs.Numerals.{IsPoints}
use Rattle.gcg_read.specs.declared.events.Event.{Event}
use Rattle.gcg_read.specs.declared.events.EventKind.{EventKind}
use Rattle.gcg_read.specs.declared.events.EventKind.TheVariants as kind
use Rattle.game_turns.specs.declared.faults.RuleFault.{RuleFault}
use Rattle.game_turns.specs.declared.faults.RuleFault.TheVariants as fault
use Rattle.game_turns.specs.Tallies.{State, tally_at}
use Rattle.game_turns.specs.Checks.{fault_in}
use Rattle.game_turns.specs.Places.{fault_at, AreAllowed, AreAllowedTo}

-- Whether the score of an event is taken as it is written: the rules allow more than one bonus for a challenge, and more than one
-- penalty for time. For every other event they give the score.
abbrev pub is_given : EventKind → Bool
is_given kind.Challenge = true
is_given kind.Time = true
is_given other = false

-- the same event, with its own score and total or with others
pub record IsRenumbered (written right : Event) : Type 0 where
  pub line : right.line ≡ written.line
  pub player : right.player ≡ written.player
  pub rack : right.rack ≡ written.rack
  pub kind : right.kind ≡ written.kind
  pub given : is_given written.kind ≡ true → right.score ≡ written.score

-- the same events, each with its own numbers or with others
pub record AreRenumbered (written right : List Event) : Type 0 where
  pub as_many : length right ≡ length written
  pub each : (place : ℕ) (a b : Event) → slice_get written place ≡ Some a → slice_get right place ≡ Some b → IsRenumbered a b

-- A correction of a sheet: the same events with other numbers, and the rules allow each.
pub record IsCorrection (rules : Rules) (list : List (List ℕ)) (written right : List Event) : Type 0 where
  pub renumbered : AreRenumbered written right
  pub allowed : AreAllowed rules list right

-- numbers that a record can write
pub record HasPoints (e : Event) : Type 0 where
  pub score : IsPoints e.score
  pub total : IsPoints e.total

abbrev pub HavePoints : List Event → Type 0
HavePoints events = (place : ℕ) (e : Event) → slice_get events place ≡ Some e → HasPoints e

-- the new events have numbers that a record can write if the old ones have
pub record KeepPoints (old new : List Event) : Type 0 where
  pub points : HavePoints old → HavePoints new

-- The sheet is corrected up to a place; after it, it is as it was written.
pub record IsCorrectedTo (rules : Rules) (list : List (List ℕ)) (written right : List Event) (end : ℕ) : Type 0 where
  pub renumbered : AreRenumbered written right
  pub allowed : AreAllowedTo rules list right end
  pub following : (place : ℕ) → end < place → slice_get right place ≡ slice_get written place

-- the score that a fault says should have been written
abbrev pub right_score : RuleFault → Option ℤ
right_score (fault.WrongScore right) = Some right
right_score rest = None

-- the total that a fault says should have been written
abbrev pub right_total : RuleFault → Option ℤ
right_total (fault.WrongTotal right) = Some right
right_total rest = None

-- the number that a fault says should have been written
abbrev pub right_number : RuleFault → Option ℤ
right_number why = option_or (right_score why) (right_total why)

-- A fault that cannot be cured by a number that a record can write: it names none, or one that is too large.
abbrev pub IsRemaining : RuleFault → Type 0
IsRemaining why = (right : ℤ) → right_number why ≡ Some right → IsPoints right → ⊥

-- The numbers of the event at which a correction stops, and the same event as it is written, by the state before it. Its total is
-- the written one. So is its score, but if the rules refuse that as a wrong score, it may be the one that they give.
pub record HasRefusedNumbers (rules : Rules) (list : List (List ℕ)) (s : State) (written refused : Event) : Type 0 where
  pub total : refused.total ≡ written.total
  pub score : (refused.score ≡ written.score) ⊎ (fault_in rules list s written ≡ Some (fault.WrongScore refused.score))

-- The correction stops at the event on a line: it is refused with this fault, which no number cures. The events before it are
-- corrected, and those after it are as they were written.
pub record StopsAt (rules : Rules) (list : List (List ℕ)) (written right : List Event) (line : ℕ) (why : RuleFault) : Type 0 where
  pub place : ℕ
  pub event : Event
  pub own : Event
  pub stands : slice_get right place ≡ Some event
  pub stood : slice_get written place ≡ Some own
  pub on_line : event.line ≡ line
  pub fails : fault_at rules list right place ≡ Some why
  pub remaining : IsRemaining why
  pub numbers : HasRefusedNumbers rules list (tally_at rules right place) own event
  pub before : IsCorrectedTo rules list written right place
