-- How an event stands in a record that was walked over.
use Rattle.std.specs.Prelude.{◌≡◌, ℕ, ◌+◌, ◌<◌, ◌≤◌, List, length, slice_get, Option, Some, None}
use Rattle.ref_tiles.specs.declared.rulebook.Rules.{Rules}
use Rattle.gcg_read.specs.declared.events.Event.{Event}
use Rattle.game_turns.specs.declared.faults.RuleFault.{RuleFault}
use Rattle.game_turns.specs.Machines.{state_of}
use Rattle.game_turns.specs.Places.{AreAllowedTo, IsRefusedBefore, fault_at}
use Rattle.game_turns.specs.Tallies.{tally_at}
use Rattle.game_walk.specs.declared.rows.Row.{Row}
use Rattle.explain_answers.specs.declared.judging.Judged.{Judged}
use Rattle.explain_answers.specs.declared.judging.Judged.TheVariants as judged

-- how many of the first rows have the right numbers as they are written
pub record AreRightTo (rows : List Row) (many : ℕ) : Type 0 where
  pub within : many ≤ length rows
  pub right : (k : ℕ) (row : Row) → k < many → slice_get rows k ≡ Some row → row.written ≡ row.right
  pub wrong : (row : Row) → slice_get rows many ≡ Some row → row.written ≡ row.right → ⊥

-- the event at a place: it is allowed together with all before it, it is the first that is refused, or an earlier one is
abbrev pub IsJudgedAt : Rules → (list : List (List ℕ)) → List Event → (place : ℕ) → Judged → Type 0
IsJudgedAt rules list events place (judged.Allowed machine) = (state_of machine.now ≡ tally_at rules events place) × AreAllowedTo rules list events (place + 1)
IsJudgedAt rules list events place (judged.Refused machine why) =
    (state_of machine.now ≡ tally_at rules events place) × (fault_at rules list events place ≡ Some why) × AreAllowedTo rules list events place
IsJudgedAt rules list events place (judged.After line) = (why : RuleFault) × IsRefusedBefore rules list events place line why

-- how it stands is always known
abbrev pub IsJudged : Rules → (list : List (List ℕ)) → List Event → (place : ℕ) → Option Judged → Type 0
IsJudged rules list events place None = ⊥
IsJudged rules list events place (Some how) = IsJudgedAt rules list events place how
