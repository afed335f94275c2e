-- Trying one change.
use Rattle.std.specs.Prelude.{◌≡◌, ◌⊎◌, ℕ, ◌-◌, ◌≤◌, List, length, slice_get, Option, Some, None}
use Rattle.ref_tiles.specs.declared.rulebook.Rules.{Rules}
use Rattle.gcg_read.specs.declared.events.Event.{Event}
use Rattle.game_turns.specs.declared.machine.Machine.{Machine}
use Rattle.game_turns.specs.Machines.{rules_of, state_of}
use Rattle.game_turns.specs.Places.{AreAllowedTo}
use Rattle.game_turns.specs.Tallies.{tally_at, withdraws}
use Rattle.game_corrections.specs.Corrections.{IsCorrection, HavePoints, AreRenumbered}
use Rattle.game_deal.specs.Verdicts.{IsGame}
use Rattle.repair_changes.specs.declared.slips.Change.{Change}
use Rattle.repair_changes.specs.Applied.{applied}
use Rattle.repair_single.specs.Costs.{cost_of}
use Rattle.repair_single.specs.Remaining.{Weighing, AreFewer, count_by, count_remaining}
use Rattle.repair_single.specs.Sums.{IsSheetBut}
use Rattle.repair_single.specs.Counting.{count_at, sum_from}

-- a correction that a record can write
pub record IsWritable (rules : Rules) (list : List (List ℕ)) (changed right : List Event) : Type 0 where
  pub correction : IsCorrection rules list changed right
  pub points : HavePoints right

-- no numbers that a record can write are a correction
abbrev pub HaveNone : Rules → (list : List (List ℕ)) → (changed : List Event) → Type 0
HaveNone rules list changed = (right : List Event) → IsWritable rules list changed right → ⊥

-- With each correction that a record can write, more numbers and words are wrong from a place on than there is room for, whatever numbers a
-- missing line has on the sheet.
abbrev pub NoneFrom : Rules → (list : List (List ℕ)) → (changed : List Event) → (start : ℕ) → (missing room : Option ℕ) → Type 0
NoneFrom rules list changed start missing room =
    (right sheet : List Event) → IsWritable rules list changed right → IsSheetBut changed missing sheet
    → AreFewer room (sum_from (count_at rules list sheet right) start (length changed - start)) → ⊥

-- With each correction that a record can write, too many numbers and words stay wrong.
abbrev pub NoneFewer : Rules → (list : List (List ℕ)) → (written : List Event) → (below : Option ℕ) → Change → Type 0
NoneFewer rules list written below change =
    (right : List Event) → IsWritable rules list (applied change written) right → AreFewer below (count_remaining rules list change written right) → ⊥

-- With no correction that a record can write is it a game in which few enough numbers and words stay wrong.
abbrev pub NoneReported : Rules → (list : List (List ℕ)) → (written : List Event) → (below : Option ℕ) → Change → Type 0
NoneReported rules list written below change =
    (right : List Event) → IsWritable rules list (applied change written) right → AreFewer below (count_remaining rules list change written right) → IsGame rules list right → ⊥

-- the same, if not all numbers count
abbrev pub NoneReportedBy : (weigh : Weighing) → Rules → (list : List (List ℕ)) → (written : List Event) → (below : Option ℕ) → Change → Type 0
NoneReportedBy weigh rules list written below change =
    (right : List Event) → IsWritable rules list (applied change written) right → AreFewer below (count_by weigh rules list change written right) → IsGame rules list right → ⊥

-- the correction that a record can write, or that there is none
abbrev pub IsCorrectionOf : Rules → (list : List (List ℕ)) → (changed : List Event) → Option (List Event) → Type 0
IsCorrectionOf rules list changed None = HaveNone rules list changed
IsCorrectionOf rules list changed (Some right) = IsWritable rules list changed right

-- A machine is before a place of some events: once they are corrected before it, the machine has the game there.
pub record StandsBefore (rules : Rules) (list : List (List ℕ)) (events : List Event) (place : ℕ) (machine : Machine) : Type 0 where
  pub front : List Event
  pub renumbered : AreRenumbered events front
  pub allowed : AreAllowedTo rules list front place
  pub by : rules_of machine ≡ rules
  pub state : state_of machine ≡ tally_at rules front place

-- A place not after another one, with a withdrawal in both lists or in neither; or the first place of all.
pub record IsStart (written changed : List Event) (place start : ℕ) : Type 0 where
  pub before : start ≤ place
  pub same : (start ≡ 0) ⊎ (withdraws (slice_get changed start) ≡ withdraws (slice_get written start))

-- What a change costs if the record has a correction with it that leaves few enough numbers and words wrong.
pub record IsWeighed (weigh : Weighing) (rules : Rules) (list : List (List ℕ)) (written : List Event) (below : Option ℕ) (change : Change) (number : ℕ) : Type 0 where
  pub right : List Event
  pub is : IsWritable rules list (applied change written) right
  pub fewer : AreFewer below (count_by weigh rules list change written right)
  pub costs : number ≡ cost_of weigh rules list change written right

-- the same, or that there is no such correction that is a game
abbrev pub IsWeight : (weigh : Weighing) → Rules → (list : List (List ℕ)) → (written : List Event) → (below : Option ℕ) → Change → Option ℕ → Type 0
IsWeight weigh rules list written below change None = NoneReportedBy weigh rules list written below change
IsWeight weigh rules list written below change (Some number) = IsWeighed weigh rules list written below change number
