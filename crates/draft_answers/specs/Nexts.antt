-- What the line after the last one of a draft is about.
use Rattle.std.specs.Prelude.{◌≡◌, ℕ, ◌+◌, Bool, false, List, length, slice_get, Option, Some, None, Result, Ok, Err}
use Rattle.ref_tiles.specs.declared.rulebook.Rules.{Rules}
use Rattle.gcg_read.specs.declared.events.Event.{Event}
use Rattle.gcg_read.specs.declared.events.Seat.TheVariants.{First, Second}
use Rattle.gcg_read.specs.declared.records.Record.{Record}
use Rattle.gcg_read.specs.Records.{record_of}
use Rattle.game_turns.specs.declared.sides.Side.{Side}
use Rattle.game_turns.specs.Seats.{side_of}
use Rattle.game_turns.specs.Tallies.{State, is_turn, withdraws, tally_at}
use Rattle.game_walk.specs.declared.refusals.Refusal.{Refusal}
use Rattle.gcg_drafts.specs.Texts.{completed_text}
use Rattle.draft_answers.specs.declared.faults.DraftFault.{DraftFault}
use Rattle.draft_answers.specs.declared.next.NextSide.{NextSide}
use Rattle.draft_answers.specs.declared.next.NextLine.{NextLine}
use Rattle.draft_answers.specs.declared.next.DraftNext.{DraftNext}
use Rattle.draft_answers.specs.Filled.{IsRighted, IsNoDraft}

-- whether the event at a place is a turn; not if there is none
abbrev pub turn_of : Rules → List Event → (place : ℕ) → Option Event → Bool
turn_of rules events place None = false
turn_of rules events place (Some e) = is_turn (withdraws (slice_get events (place + 1))) (tally_at rules events place).out e.kind

-- what a player has
pub record IsNextSide (side : Side) (n : NextSide) : Type 0 where
  pub total : n.total ≡ side.total
  pub rack : n.rack ≡ side.rack

-- what there is in a state of a game, before its next line
pub record IsNextOf (s : State) (n : NextLine) : Type 0 where
  pub turn : n.turn ≡ s.mover
  pub out : n.out ≡ s.out
  pub complete : n.complete ≡ s.complete
  pub bag : n.bag ≡ s.bag
  pub first : IsNextSide (side_of s.sides First) n.first
  pub second : IsNextSide (side_of s.sides Second) n.second

-- where the next line is: after the last event, or that of the event which the rules refuse with any numbers
abbrev pub IsNextPlace : List Event → Option Refusal → (place : ℕ) → Type 0
IsNextPlace events None place = place ≡ length events
IsNextPlace events (Some refusal) place = (e : Event) × (slice_get events place ≡ Some e) × (e.line ≡ refusal.line)

-- what the next line of a draft is about, by its right numbers
pub record IsNext (rules : Rules) (list : List (List ℕ)) (text : List ℕ) (d : DraftNext) : Type 0 where
  pub drafted : Record
  pub means : record_of (completed_text text) ≡ Ok drafted
  pub players : d.record.players ≡ drafted.players
  pub righted : IsRighted rules list drafted.events d.record.events d.stopped
  pub place : ℕ
  pub at : IsNextPlace d.record.events d.stopped place
  pub is : IsNextOf (tally_at rules d.record.events place) d.next

abbrev pub IsNextOfDraft : Rules → (list : List (List ℕ)) → (text : List ℕ) → Result DraftNext DraftFault → Type 0
IsNextOfDraft rules list text (Ok d) = IsNext rules list text d
IsNextOfDraft rules list text (Err f) = IsNoDraft text f
