-- A bonus or a penalty that would explain wrong numbers.
use Rattle.std.specs.Prelude.{◌≡◌, ⊤, ℕ, ◌*◌, ◌≤◌, length, nat_lt, ◌&&◌, Bool, true, false, List, [], ◌∷◌, Option, Some, None, if◌then◌else◌, Ok}
use Rattle.ref_tiles.specs.declared.rulebook.Rules.{Rules}
use Rattle.gcg_read.specs.declared.events.Event.{Event}
use Rattle.gcg_read.specs.declared.records.Record.{Record}
use Rattle.gcg_read.specs.Records.{record_of}
use Rattle.game_walk.specs.declared.walking.Walk.{Walk}
use Rattle.game_walk.specs.Walks.{IsWalkOf}
use Rattle.repair_plays.specs.PlayChanges.{ArePlayChanges}
use Rattle.repair_changes.specs.declared.slips.Change.{Change}
use Rattle.repair_changes.specs.declared.slips.Slip.{Slip}
use Rattle.repair_changes.specs.declared.slips.Slip.TheVariants as slip
use Rattle.repair_changes.specs.declared.slips.MissingLine.TheVariants as line
use Rattle.repair_changes.specs.declared.slips.MissingLine.{MissingLine}
use Rattle.repair_single.specs.declared.listed.Listed.{Listed}
use Rattle.repair_single.specs.declared.repair.Repair.{Repair}
use Rattle.repair_answers.specs.Alike.{cost_in}
use Rattle.repair_answers.specs.Answers.{below_of}
use Rattle.repair_answers.specs.Choices.{alone_cost}
use Rattle.repair_answers.specs.Trades.{AreReported}
use Rattle.repair_answers.specs.Tried.{count_walked}
use Rattle.repair_answers.specs.Unchanged.{IsUnchanged}
use Rattle.repair_answers.specs.declared.numbers_alone.NumbersAlone.{NumbersAlone}
use Rattle.repair_answers.specs.declared.sheet_amounts.SheetAmount.{SheetAmount}

-- a bonus for a challenge or a penalty for time is missing
abbrev pub is_missing_amount : MissingLine → Bool
is_missing_amount (line.Challenge player score several) = true
is_missing_amount (line.Time player score early) = true
is_missing_amount other = false

-- the slip is one of a bonus for a challenge or of a penalty for time: it is missing, or it is another amount
abbrev pub is_of_amount : Slip → Bool
is_of_amount (slip.Amount right) = true
is_of_amount (slip.Missing m) = is_missing_amount m
is_of_amount other = false

-- such a repair costs less than correcting only the numbers, if that makes a game or may make one
abbrev pub costs_less : Option NumbersAlone → Repair → Bool
costs_less None repair = true
costs_less (Some alone) repair = nat_lt (cost_in repair) (alone_cost alone)

abbrev pub explains : Option NumbersAlone → Repair → Bool
explains alone repair = is_of_amount repair.listed.change.slip && costs_less alone repair

-- the first of some repairs, if it is such a one
abbrev pub IsAmountOf : Option NumbersAlone → (reported : List Repair) → Option Repair → Type 0
IsAmountOf alone [] amount = amount ≡ None
IsAmountOf alone (first ∷ rest) amount = amount ≡ (if explains alone first then Some first else None)

-- The first repair of a record, if it is one of a bonus or a penalty and costs less than correcting only the numbers. All changes of the list are tried, if
-- they are no more than 500,000 when each is counted once for each event; of a longer record those at the first places may not have been.
pub record IsAmount (rules : Rules) (list : List (List ℕ)) (written : List Event) (amount : Option Repair) : Type 0 where
  pub numbers : Option NumbersAlone
  pub alone : IsUnchanged rules list written numbers
  pub walk : Walk
  pub walked : IsWalkOf rules list written walk
  pub plays : List Change
  pub are_plays : ArePlayChanges written walk plays
  pub reported : List Repair
  pub remaining : List Listed
  pub from : ℕ
  pub repairs : AreReported rules list written numbers plays (below_of numbers) from 1 reported remaining
  pub all : count_walked rules written walk * length written ≤ 500000 → from ≡ 0
  pub chosen : IsAmountOf numbers reported amount

-- that of a record, with the record
abbrev pub IsAmountOfRecord : Rules → (list : List (List ℕ)) → Record → Option SheetAmount → Type 0
IsAmountOfRecord rules list written None = ⊤
IsAmountOfRecord rules list written (Some found) = (found.record ≡ written) × IsAmount rules list written.events (Some found.repair)

-- What is found on a sheet is the one of the record that its text means. It is not looked for unless a total is off by some units of a bonus or a penalty.
abbrev pub IsAmountOnSheet : Rules → (list : List (List ℕ)) → (text : List ℕ) → Option SheetAmount → Type 0
IsAmountOnSheet rules list text None = ⊤
IsAmountOnSheet rules list text (Some found) = (record_of text ≡ Ok found.record) × IsAmount rules list found.record.events (Some found.repair)
