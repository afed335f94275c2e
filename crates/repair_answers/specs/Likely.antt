-- The repair of a record that is likelier than all others by far.
use Rattle.std.specs.Prelude.{◌≡◌, ℕ, ◌*◌, ◌≤◌, Bool, true, List, [], ◌∷◌, length, Option, Some, None, Result, Ok, Err}
use Rattle.ref_tiles.specs.declared.rulebook.Rules.{Rules}
use Rattle.gcg_read.specs.declared.events.Event.{Event}
use Rattle.gcg_read.specs.declared.faults.ReadFault.{ReadFault}
use Rattle.game_case.specs.declared.entries.Entry.{Entry}
use Rattle.game_case.specs.declared.findings.Finding.{Finding}
use Rattle.game_case.specs.declared.findings.Finding.TheVariants as finding
use Rattle.game_walk.specs.declared.walking.Walk.{Walk}
use Rattle.game_walk.specs.Walks.{IsWalkOf}
use Rattle.repair_plays.specs.PlayChanges.{ArePlayChanges}
use Rattle.repair_changes.specs.declared.slips.Change.{Change}
use Rattle.repair_single.specs.declared.listed.Listed.{Listed}
use Rattle.repair_single.specs.declared.repair.Repair.{Repair}
use Rattle.repair_pairs.specs.declared.found.Pair.{Pair}
use Rattle.repair_pairs.specs.declared.found.Pairs.{Pairs}
use Rattle.repair_pairs.specs.Pairs.{ArePairs}
use Rattle.repair_answers.specs.Answers.{below_of}
use Rattle.repair_answers.specs.Alike.{cost_in}
use Rattle.repair_answers.specs.Choices.{all_known, IsFirst, HasRival, IsAheadOfNumbers, IsFarBelowSheets, IsSheetChosen, IsNoneChosen}
use Rattle.repair_answers.specs.Sheets.{sheet_room, slips_tried, AreSheetRepairs}
use Rattle.repair_answers.specs.Trades.{AreReported}
use Rattle.repair_answers.specs.Tried.{count_walked}
use Rattle.repair_answers.specs.Unchanged.{IsUnchanged}
use Rattle.repair_answers.specs.declared.numbers_alone.NumbersAlone.{NumbersAlone}
use Rattle.repair_answers.specs.declared.sheet_repair.SheetRepair.{SheetRepair}
use Rattle.repair_answers.specs.declared.likely.Likely.{Likely}
use Rattle.repair_answers.specs.declared.likely.Likely.TheVariants as likely_one

-- The likely one of some repairs: each change was tried and none is left open, it is ahead of the others, of the slips of the whole sheet and of the record with only its
-- numbers corrected, and no two changes cost less.
abbrev pub IsFarFirst : Option NumbersAlone → (reported : List Repair) → (known : Bool) → (pairs : List Pair) → (sheets : List SheetRepair) → Repair → Type 0
IsFarFirst alone reported known pairs sheets repair =
    (known ≡ true) × IsFirst reported repair × (HasRival repair pairs → ⊥) × IsAheadOfNumbers alone repair × IsFarBelowSheets (cost_in repair) sheets

-- that neither is the likely one
pub record IsNoneLikely (alone : Option NumbersAlone) (reported : List Repair) (known : Bool) (pairs : List Pair) (sheets : List SheetRepair) : Type 0 where
  pub change : (repair : Repair) → IsFarFirst alone reported known pairs sheets repair → ⊥
  pub sheet : known ≡ true → IsNoneChosen reported pairs alone sheets

-- That one, or the slip of the whole sheet that is ahead of all else; or that there is none.
abbrev pub IsLikelyOf : Option NumbersAlone → (reported : List Repair) → (known : Bool) → (pairs : List Pair) → (sheets : List SheetRepair) → Option Likely → Type 0
IsLikelyOf alone reported known pairs sheets (Some (likely_one.Change repair)) = IsFarFirst alone reported known pairs sheets repair
IsLikelyOf alone reported known pairs sheets (Some (likely_one.Sheet s)) = (known ≡ true) × IsSheetChosen reported pairs alone sheets s
IsLikelyOf alone reported known pairs sheets None = IsNoneLikely alone reported known pairs sheets

-- the first of some repairs, and of some slips of the whole sheet
abbrev pub IsFirstChange : (reported : List Repair) → Option Likely → Type 0
IsFirstChange [] likely = likely ≡ None
IsFirstChange (first ∷ rest) likely = likely ≡ Some (likely_one.Change first)

abbrev pub IsFirstSheet : (sheets : List SheetRepair) → Option Likely → Type 0
IsFirstSheet [] likely = likely ≡ None
IsFirstSheet (first ∷ rest) likely = likely ≡ Some (likely_one.Sheet first)

-- The likely repair of a record: the first of four, if it is ahead by at least a wrong number of the others, but for those that only say less, of the
-- slips of the whole sheet and of correcting only the numbers, and if no two changes that were found cost less; or the slip of the whole sheet that is
-- ahead of all of them, without which every number is right. All changes of the list are tried, if they are no more than 500,000 when each is counted once
-- for each event. Some plays that a search found may have been tried in addition.
pub record IsLikely (rules : Rules) (list : List (List ℕ)) (text : List ℕ) (written : List Event) (likely : Option Likely) : Type 0 where
  pub numbers : Option NumbersAlone
  pub alone : IsUnchanged rules list written numbers
  pub walk : Walk
  pub walked : IsWalkOf rules list written walk
  pub plays : List Change
  pub are_plays : ArePlayChanges written walk plays
  pub reported : List Repair
  pub remaining : List Listed
  pub from : ℕ
  pub repairs : AreReported rules list written numbers plays (below_of numbers) from 4 reported remaining
  pub all : count_walked rules written walk * length written ≤ 500000 → from ≡ 0
  pub two : Pairs
  pub pairs : ArePairs rules list written reported 1 two
  pub sheets : List SheetRepair
  pub are_sheets : AreSheetRepairs rules list text written (sheet_room numbers) (slips_tried text written walk) sheets
  pub chosen : IsLikelyOf numbers reported (all_known remaining from) two.reported.items sheets likely

-- The likely repair of a record with this finding: only an illegal one has it.
abbrev pub IsLikelyFor : Rules → (list : List (List ℕ)) → Finding → (text : List ℕ) → (written : List Event) → Option Likely → Type 0
IsLikelyFor rules list (finding.Illegal line fault) text written likely = IsLikely rules list text written likely
IsLikelyFor rules list other text written likely = likely ≡ None

-- the same for the case of a text
abbrev pub IsLikelyOfCase : Rules → (list : List (List ℕ)) → (text : List ℕ) → Result Entry ReadFault → Option Likely → Type 0
IsLikelyOfCase rules list text (Ok entry) likely = IsLikelyFor rules list entry.finding text entry.record.events likely
IsLikelyOfCase rules list text (Err fault) likely = likely ≡ None
