-- Whether one repair is to be chosen, or the record with only its numbers corrected.
use Rattle.std.specs.Prelude.{◌≡◌, ◌⊎◌, ⊤, ℕ, ◌+◌, ◌<◌, ◌≤◌, ◌==◌, ◌&&◌, Bool, true, false, List, [], ◌∷◌, All, length, slice_get, Option, Some, None}
use Rattle.gcg_read.specs.declared.events.Event.{Event}
use Rattle.repair_changes.specs.declared.slips.Slip.{Slip}
use Rattle.repair_changes.specs.declared.slips.Slip.TheVariants as slip
use Rattle.repair_changes.specs.declared.slips.TileSlip.{TileSlip}
use Rattle.repair_changes.specs.declared.slips.TileSlip.TheVariants as tile
use Rattle.repair_changes.specs.declared.slips.TilesOf.TheVariants as tiles_of
use Rattle.repair_changes.specs.Weights.{remaining_cost}
use Rattle.repair_single.specs.declared.listed.Listed.{Listed}
use Rattle.repair_single.specs.declared.repair.Repair.{Repair}
use Rattle.repair_pairs.specs.declared.found.Pair.{Pair}
use Rattle.repair_sheets.specs.declared.slips.SheetSlip.{SheetSlip}
use Rattle.repair_sheets.specs.declared.slips.SheetSlip.TheVariants as sheet
use Rattle.repair_answers.specs.Alike.{same_tile, cost_in}
use Rattle.repair_answers.specs.declared.numbers_alone.NumbersAlone.{NumbersAlone}
use Rattle.repair_answers.specs.declared.sheet_repair.SheetRepair.{SheetRepair}
use Rattle.repair_answers.specs.declared.choices.Choice.{Choice}
use Rattle.repair_answers.specs.declared.choices.Choice.TheVariants as choice

-- ---- repairs that say less than another one

-- the other slip only leaves out the tile that was taken for another one
abbrev pub leaves_out_tile : TileSlip → TileSlip → Bool
leaves_out_tile (tile.Other written right) (tile.Extra one) = same_tile written one
leaves_out_tile first other = false

-- The other slip says less: both are of the rack that a line states, and it leaves out the tile for which the first one has another, or the whole rack.
abbrev pub says_less_slip : (first other : Slip) → Bool
says_less_slip (slip.Tile tiles_of.Rack one) (slip.Tile tiles_of.Rack other) = leaves_out_tile one other
says_less_slip (slip.Tile tiles_of.Rack one) slip.NoRack = true
says_less_slip first other = false

abbrev pub says_less : (first other : Repair) → Bool
says_less first other = first.listed.change.place == other.listed.change.place && says_less_slip first.listed.change.slip other.listed.change.slip

-- ---- what is ahead of what, by at least a wrong number, which costs 5

abbrev pub IsFarAhead : (first second : Repair) → Type 0
IsFarAhead first second = cost_in first + 5 ≤ cost_in second

-- a repair is ahead of another one by that, or the other one says the same, and less
abbrev pub IsAheadOf : (first other : Repair) → Type 0
IsAheadOf first other = (says_less first other ≡ true) ⊎ IsFarAhead first other

-- the first of them is a repair that is ahead of the others
abbrev pub IsFirst : (reported : List Repair) → Repair → Type 0
IsFirst [] r = ⊥
IsFirst (first ∷ rest) r = (r ≡ first) × All (IsAheadOf first) rest

-- the first is not ahead of all others
abbrev pub AreClose : (reported : List Repair) → Type 0
AreClose [] = ⊥
AreClose (first ∷ rest) = All (IsAheadOf first) rest → ⊥

-- the cheapest of some pairs of changes costs less than a repair
abbrev pub HasRival : Repair → (pairs : List Pair) → Type 0
HasRival first [] = ⊥
HasRival first (pair ∷ rest) = pair.cost < cost_in first

-- what it costs to correct only the numbers: 5 for each, and 3 for each word that is not in the list
abbrev pub alone_cost : NumbersAlone → ℕ
alone_cost alone = remaining_cost (length alone.remains.wrong.items) (length alone.remains.unlisted.items)

-- A repair is ahead of correcting only the numbers. If more than numbers is wrong, there is nothing to be ahead of.
abbrev pub IsAheadOfNumbers : Option NumbersAlone → Repair → Type 0
IsAheadOfNumbers None repair = ⊤
IsAheadOfNumbers (Some alone) repair = cost_in repair + 5 ≤ alone_cost alone

-- correcting only the numbers is ahead of the first of some repairs, and of the cheapest of some pairs
abbrev pub LeadsRepairs : NumbersAlone → (reported : List Repair) → Type 0
LeadsRepairs alone [] = ⊤
LeadsRepairs alone (first ∷ rest) = alone_cost alone + 5 ≤ cost_in first

abbrev pub LeadsPairs : NumbersAlone → (pairs : List Pair) → Type 0
LeadsPairs alone [] = ⊤
LeadsPairs alone (pair ∷ rest) = alone_cost alone + 5 ≤ pair.cost

abbrev pub Lead : Option NumbersAlone → (reported : List Repair) → (pairs : List Pair) → Type 0
Lead None reported pairs = ⊥
Lead (Some alone) reported pairs = LeadsRepairs alone reported × LeadsPairs alone pairs

-- whether the record is known to be a game with only its numbers corrected
abbrev pub IsGameAlone : Option NumbersAlone → (known : Bool) → Type 0
IsGameAlone None known = ⊥
IsGameAlone (Some alone) known = alone.is_game ≡ known

-- ---- slips of the whole sheet

-- a cost is at least a wrong number below that of the first of some slips of the whole sheet
abbrev pub IsFarBelowSheets : (cost : ℕ) → (sheets : List SheetRepair) → Type 0
IsFarBelowSheets cost [] = ⊤
IsFarBelowSheets cost (first ∷ rest) = cost + 5 ≤ first.cost

-- whether a line is missing with a slip
abbrev pub is_missing : Slip → Bool
is_missing (slip.Missing line) = true
is_missing other = false

-- whether an event is on a line
abbrev pub is_on : (line : ℕ) → Option Event → Bool
is_on line None = false
is_on line (Some e) = e.line == line

-- A repair says less than that a line is not read, if a line is missing where that line is.
abbrev pub says_less_than : SheetSlip → (right : List Event) → Repair → Bool
says_less_than (sheet.Unread unread) right repair = is_missing repair.listed.change.slip && is_on unread.line (slice_get right repair.listed.change.place)
says_less_than other right repair = false

-- a slip of the whole sheet is ahead of a repair by at least a wrong number, or the repair says less and costs no less
abbrev pub IsAheadOfRepair : SheetRepair → Repair → Type 0
IsAheadOfRepair s repair = ((says_less_than s.slip s.right repair ≡ true) × (s.cost ≤ cost_in repair)) ⊎ (s.cost + 5 ≤ cost_in repair)

-- a cost is at least a wrong number below that of the cheapest of some pairs, and of correcting only the numbers
abbrev pub IsFarBelowPairs : (cost : ℕ) → (pairs : List Pair) → Type 0
IsFarBelowPairs cost [] = ⊤
IsFarBelowPairs cost (pair ∷ rest) = cost + 5 ≤ pair.cost

abbrev pub IsFarBelowNumbers : (cost : ℕ) → Option NumbersAlone → Type 0
IsFarBelowNumbers cost None = ⊤
IsFarBelowNumbers cost (Some alone) = cost + 5 ≤ alone_cost alone

-- correcting only the numbers is ahead of the first of some slips of the whole sheet
abbrev pub AreNumbersBelow : Option NumbersAlone → (sheets : List SheetRepair) → Type 0
AreNumbersBelow None sheets = ⊥
AreNumbersBelow (Some alone) sheets = IsFarBelowSheets (alone_cost alone) sheets

-- a slip of the whole sheet is ahead of others, of all repairs, of two changes and of correcting only the numbers
abbrev pub IsSheetAhead : SheetRepair → (others : List SheetRepair) → (reported : List Repair) → (pairs : List Pair) → Option NumbersAlone → Type 0
IsSheetAhead s others reported pairs alone =
    IsFarBelowSheets s.cost others × All (IsAheadOfRepair s) reported × IsFarBelowPairs s.cost pairs × IsFarBelowNumbers s.cost alone

-- the first of some slips of the whole sheet is ahead of all else
abbrev pub IsSheetFirst : (reported : List Repair) → (pairs : List Pair) → Option NumbersAlone → (sheets : List SheetRepair) → SheetRepair → Type 0
IsSheetFirst reported pairs alone [] s = ⊥
IsSheetFirst reported pairs alone (first ∷ rest) s = (s ≡ first) × IsSheetAhead first rest reported pairs alone

-- it is ahead of all of them, it is known to make a game, and every number is right without the slip
abbrev pub IsSheetChosen : (reported : List Repair) → (pairs : List Pair) → Option NumbersAlone → (sheets : List SheetRepair) → SheetRepair → Type 0
IsSheetChosen reported pairs alone sheets s = IsSheetFirst reported pairs alone sheets s × (s.alone.is_game ≡ true) × (s.alone.remains.wrong.items ≡ [])

abbrev pub IsNoneChosen : (reported : List Repair) → (pairs : List Pair) → Option NumbersAlone → (sheets : List SheetRepair) → Type 0
IsNoneChosen reported pairs alone sheets = (s : SheetRepair) → IsSheetChosen reported pairs alone sheets s → ⊥

-- it is ahead of all of them, and it is not known whether it makes a game
abbrev pub IsSheetOpen : (reported : List Repair) → (pairs : List Pair) → Option NumbersAlone → (sheets : List SheetRepair) → Type 0
IsSheetOpen reported pairs alone [] = ⊥
IsSheetOpen reported pairs alone (first ∷ rest) = IsSheetAhead first rest reported pairs alone × (first.alone.is_game ≡ false)

-- a repair that is the first and ahead of the others is not ahead of the slips of the whole sheet
abbrev pub IsNoneBelow : (reported : List Repair) → (sheets : List SheetRepair) → Type 0
IsNoneBelow reported sheets = (r : Repair) → IsFirst reported r → IsFarBelowSheets (cost_in r) sheets → ⊥

-- ---- the choice

-- Two changes together cost less than the first repair; or there is no repair, and correcting only the numbers is not ahead of two changes.
abbrev pub IsPairAhead : (reported : List Repair) → (pairs : List Pair) → Option NumbersAlone → Type 0
IsPairAhead [] pairs alone = alone ≡ None → ⊥
IsPairAhead (first ∷ rest) pairs alone = HasRival first pairs

-- the first repair is not ahead of correcting only the numbers
abbrev pub IsNearNumbers : (reported : List Repair) → Option NumbersAlone → Type 0
IsNearNumbers [] alone = ⊥
IsNearNumbers (first ∷ rest) alone = IsAheadOfNumbers alone first → ⊥

-- Whether each change was tried, and is known to be a repair or not.
abbrev pub all_known : (remaining : List Listed) → (from : ℕ) → Bool
all_known [] from = from == 0
all_known (listed ∷ rest) from = false

-- Which of the repairs that were found is to be chosen, if one is: none if some change is left open or was not tried, and none if two changes or the numbers alone
-- are as likely, or a slip of the whole sheet is. Correcting only the numbers is chosen if it is ahead of all of them and known to make a game; and a slip
-- of the whole sheet, if it is ahead of all else and known to make a game of which every number is right.
abbrev pub IsChoice : (reported : List Repair) → (known : Bool) → (pairs : List Pair) → (sheets : List SheetRepair) → Option NumbersAlone → Choice → Type 0
IsChoice reported known pairs sheets alone choice.None = (known ≡ true) × (reported ≡ []) × (alone ≡ None) × (sheets ≡ [])
IsChoice reported known pairs sheets alone choice.Open = (known ≡ true → ⊥) ⊎ (Lead alone reported pairs × IsGameAlone alone false × IsNoneChosen reported pairs alone sheets) ⊎ IsSheetOpen reported pairs alone sheets
IsChoice reported known pairs sheets alone choice.Numbers = (known ≡ true) × Lead alone reported pairs × IsGameAlone alone true × AreNumbersBelow alone sheets
IsChoice reported known pairs sheets alone choice.Pair = (known ≡ true) × (Lead alone reported pairs → ⊥) × IsPairAhead reported pairs alone × IsNoneChosen reported pairs alone sheets
IsChoice reported known pairs sheets alone choice.NearNumbers = (known ≡ true) × (Lead alone reported pairs → ⊥) × IsNearNumbers reported alone × IsNoneChosen reported pairs alone sheets
IsChoice reported known pairs sheets alone choice.Close = (known ≡ true) × AreClose reported × IsNoneChosen reported pairs alone sheets
IsChoice reported known pairs sheets alone (choice.Clear repair) =
    (known ≡ true) × IsFirst reported repair.now × (HasRival repair.now pairs → ⊥) × IsAheadOfNumbers alone repair.now × IsFarBelowSheets (cost_in repair.now) sheets
IsChoice reported known pairs sheets alone (choice.Sheet s) = (known ≡ true) × IsSheetChosen reported pairs alone sheets s.now
IsChoice reported known pairs sheets alone choice.NearSheet =
    (known ≡ true) × (sheets ≡ [] → ⊥) × IsNoneChosen reported pairs alone sheets × IsNoneBelow reported sheets × (AreNumbersBelow alone sheets → ⊥)
