-- Slips of the whole sheet that repair a record.
use Rattle.std.specs.Prelude.{◌≡◌, ℕ, ◌+◌, ◌<◌, ◌==◌, ◌&&◌, ◌||◌, nat_lt, min, Bool, true, List, length, All, AllPairs, Contains, slice_get, Option, Some, None}
use Rattle.ref_tiles.specs.declared.rulebook.Rules.{Rules}
use Rattle.gcg_read.specs.declared.events.Event.{Event}
use Rattle.game_corrections.specs.WrongNumbers.{wrong_lines}
use Rattle.game_walk.specs.Numbers.{renumbered}
use Rattle.game_walk.specs.declared.walking.Walk.{Walk}
use Rattle.game_deal.specs.Verdicts.{IsGame}
use Rattle.repair_single.specs.Remaining.{unlisted_words}
use Rattle.repair_single.specs.Trying.{IsWritable}
use Rattle.repair_sheets.specs.declared.slips.SheetSlip.{SheetSlip}
use Rattle.repair_sheets.specs.Listing.{sheet_slips}
use Rattle.repair_sheets.specs.Undoing.{without_slip}
use Rattle.repair_sheets.specs.Weights.{weight_of}
use Rattle.repair_answers.specs.Unchanged.{AreNumbersAlone, IsUnchanged}
use Rattle.repair_answers.specs.Choices.{alone_cost}
use Rattle.repair_answers.specs.declared.numbers_alone.NumbersAlone.{NumbersAlone}
use Rattle.repair_answers.specs.declared.sheet_repair.SheetRepair.{SheetRepair}
use Rattle.repair_answers.specs.declared.sheet_repair.Righted.{Righted}

-- The places at which a slip may begin that runs through the sheet: those up to where the correction of the record stops, and of these the first 60.
abbrev pub slip_places : List Event → Walk → ℕ
slip_places written walk = min (min (length walk.rows.items + 1) 60) (length written)

-- the slips of the whole sheet that are tried
abbrev pub slips_tried : (text : List ℕ) → List Event → Walk → List SheetSlip
slips_tried text written walk = sheet_slips text written (slip_places written walk)

-- how many numbers and words are wrong
abbrev pub count_wrong : NumbersAlone → ℕ
count_wrong alone = length alone.remains.wrong.items + length alone.remains.unlisted.items

-- Fewer numbers and words than this stay wrong without a slip of the whole sheet: fewer than ten, and fewer than if only the numbers are corrected.
abbrev pub sheet_room : Option NumbersAlone → ℕ
sheet_room None = 10
sheet_room (Some alone) = min (count_wrong alone) 10

-- The record without the slip is a game once its numbers are corrected: the rules allow each event with its right numbers, and some deal yields every
-- rack. Few enough numbers and words are wrong then.
pub record IsGameWithout (rules : Rules) (list : List (List ℕ)) (text : List ℕ) (written : List Event) (room : ℕ) (s : SheetSlip) (right : List Event) : Type 0 where
  pub made : List Event
  pub without : without_slip s text written ≡ Some made
  pub correction : IsWritable rules list made right
  pub game : IsGame rules list right
  pub fewer : length (wrong_lines None made right) + length (unlisted_words rules list right) < room

-- What is wrong with the record without the slip is only numbers, and few enough of them and of the words: so it is a game, as far as is known. These are
-- its events with their right numbers.
pub record IsGameBut (rules : Rules) (list : List (List ℕ)) (text : List ℕ) (written : List Event) (room : ℕ) (s : SheetSlip) (right : List Event) (numbers : NumbersAlone) : Type 0 where
  pub made : List Event
  pub without : without_slip s text written ≡ Some made
  pub numbered : right ≡ renumbered made numbers.right.items
  pub alone : AreNumbersAlone rules list made numbers
  pub fewer : count_wrong numbers < room

-- one of the slips that are tried, by its number among them; the right events, what is wrong without it, and what it costs
pub record IsSheetRepair (rules : Rules) (list : List (List ℕ)) (text : List ℕ) (written : List Event) (room : ℕ) (slips : List SheetSlip) (r : SheetRepair) : Type 0 where
  pub listed : slice_get slips r.number ≡ Some r.slip
  pub game : IsGameBut rules list text written room r.slip r.right r.alone
  pub costs : r.cost ≡ weight_of r.slip + alone_cost r.alone

-- The order of repairs: by what they cost, and those of equal cost by the list of slips.
abbrev pub is_sheet_ahead : SheetRepair → SheetRepair → Bool
is_sheet_ahead a b = nat_lt a.cost b.cost || a.cost == b.cost && nat_lt a.number b.number

-- one of some repairs is with the slip that has this number
pub record HasNumber (found : List SheetRepair) (number : ℕ) : Type 0 where
  pub repair : SheetRepair
  pub among : Contains found repair
  pub same : repair.number ≡ number

-- Those of some slips of the whole sheet that repair a record, in their order. None that makes a game is left out.
pub record AreSheetRepairs (rules : Rules) (list : List (List ℕ)) (text : List ℕ) (written : List Event) (room : ℕ) (slips : List SheetSlip) (found : List SheetRepair) : Type 0 where
  pub each : All (IsSheetRepair rules list text written room slips) found
  pub ordered : AllPairs (λ (a b : SheetRepair). is_sheet_ahead a b ≡ true) found
  pub all : (number : ℕ) (s : SheetSlip) (right : List Event) → slice_get slips number ≡ Some s → IsGameWithout rules list text written room s right
      → HasNumber found number

-- ---- one slip

-- what is wrong with some events if only their numbers are, and the events with their right numbers; or that more is wrong
pub record AreRighted (rules : Rules) (list : List (List ℕ)) (made : List Event) (r : Righted) : Type 0 where
  pub numbered : r.right ≡ renumbered made r.alone.right.items
  pub alone : AreNumbersAlone rules list made r.alone

abbrev pub IsRighted : Rules → (list : List (List ℕ)) → (made : List Event) → Option Righted → Type 0
IsRighted rules list made None = IsUnchanged rules list made None
IsRighted rules list made (Some r) = AreRighted rules list made r

-- the repair with the slip at a number, or that no correction makes a game
pub record IsRepairBy (rules : Rules) (list : List (List ℕ)) (text : List ℕ) (written : List Event) (room index : ℕ) (s : SheetSlip) (r : SheetRepair) : Type 0 where
  pub number : r.number ≡ index
  pub slip : r.slip ≡ s
  pub game : IsGameBut rules list text written room r.slip r.right r.alone
  pub costs : r.cost ≡ weight_of r.slip + alone_cost r.alone

abbrev pub IsTrial : Rules → (list : List (List ℕ)) → (text : List ℕ) → List Event → (room number : ℕ) → SheetSlip → Option SheetRepair → Type 0
IsTrial rules list text written room number s None = (right : List Event) → IsGameWithout rules list text written room s right → ⊥
IsTrial rules list text written room number s (Some r) = IsRepairBy rules list text written room number s r

-- Those among the first `end` slips, in the order of the list.
pub record AreFoundTo (rules : Rules) (list : List (List ℕ)) (text : List ℕ) (written : List Event) (room : ℕ) (slips : List SheetSlip) (end : ℕ) (found : List SheetRepair) : Type 0 where
  pub each : All (IsSheetRepair rules list text written room slips) found
  pub before : All (λ (r : SheetRepair). r.number < end) found
  pub ordered : AllPairs (λ (a b : SheetRepair). a.number < b.number) found
  pub all : (number : ℕ) (s : SheetSlip) (right : List Event) → number < end → slice_get slips number ≡ Some s → IsGameWithout rules list text written room s right
      → HasNumber found number
