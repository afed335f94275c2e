-- What `repair` answers of the case of a record.
use Rattle.std.specs.Prelude.{◌≡◌, ℕ, ◌+◌, ◌-◌, ◌*◌, ◌≤◌, Bool, true, false, List, length, Option, Some, None, Result, Ok, Err}
use Rattle.std.specs.Option.{option_map}
use Rattle.ref_tiles.specs.declared.rulebook.Rules.{Rules}
use Rattle.gcg_read.specs.declared.events.Event.{Event}
use Rattle.gcg_read.specs.declared.faults.ReadFault.{ReadFault}
use Rattle.game_walk.specs.declared.walking.Walk.{Walk}
use Rattle.game_case.specs.declared.entries.Entry.{Entry}
use Rattle.game_case.specs.declared.explains.Case.{Case}
use Rattle.game_case.specs.declared.findings.Finding.{Finding}
use Rattle.game_case.specs.declared.findings.Finding.TheVariants as finding
use Rattle.game_case.specs.Explaining.{case_verdict}
use Rattle.repair_plays.specs.PlayChanges.{ArePlayChanges}
use Rattle.repair_pairs.specs.Pairs.{ArePairs}
use Rattle.repair_answers.specs.Alike.{is_like, are_like_pairs}
use Rattle.repair_answers.specs.BadRecords.{RepairsOfLine}
use Rattle.repair_answers.specs.Chains.{IsChainOf}
use Rattle.repair_answers.specs.Lines.{AreLines, before_numbers}
use Rattle.repair_answers.specs.Tried.{count_walked, count_untried, count_changes}
use Rattle.repair_answers.specs.Sheets.{sheet_room, slips_tried, AreSheetRepairs}
use Rattle.repair_answers.specs.Trades.{AreReported}
use Rattle.repair_answers.specs.Unchanged.{IsUnchanged}
use Rattle.repair_answers.specs.declared.numbers_alone.NumbersAlone.{NumbersAlone}
use Rattle.repair_answers.specs.declared.answers.Faulty.{Faulty}
use Rattle.repair_answers.specs.declared.answers.RepairAnswer.{RepairAnswer}

-- how many numbers and words are wrong if only the numbers are: fewer must stay wrong with a repair
abbrev pub below_of : Option NumbersAlone → Option ℕ
below_of alone = option_map (λ (a : NumbersAlone). length a.remains.wrong.items + length a.remains.unlisted.items) alone

-- What repairs an illegal record: what is wrong if only its numbers are, changes of plays that a search found, which are tried too, its first repairs,
-- as many as `most` lines can have, the lines, how many of them cost less than correcting only the numbers, pairs of changes that cost less than
-- each of these repairs, the lines of these pairs, the slips of the whole sheet that repair it, and how many changes were tried and how many were not. All are tried, if the changes,
-- each counted once for each event, are no more than 4,000,000.
pub record RepairsIn (rules : Rules) (list : List (List ℕ)) (text : List ℕ) (written : List Event) (walk : Walk) (most : ℕ) (f : Faulty) : Type 0 where
  pub alone : IsUnchanged rules list written f.alone
  pub plays : ArePlayChanges written walk f.plays.items
  pub repairs : AreReported rules list written f.alone f.plays.items (below_of f.alone) f.found.from (27 * most) f.found.reported.items f.found.remaining.items
  pub lines : AreLines is_like f.found.reported.items most f.lines.items
  pub before : f.before_numbers ≡ before_numbers f.alone f.found.reported.items f.lines.items
  pub pairs : ArePairs rules list written f.found.reported.items (27 * most) f.pairs
  pub pair_lines : AreLines are_like_pairs f.pairs.reported.items most f.pair_lines.items
  pub sheets : AreSheetRepairs rules list text written (sheet_room f.alone) (slips_tried text written walk) f.sheets.items
  pub all : count_walked rules written walk * length written ≤ 4000000 → f.found.from ≡ 0
  pub untried : f.untried ≡ count_untried rules written walk f.found.from
  pub changes : f.changes ≡ count_changes rules written walk f.plays.items
  pub tried : f.tried ≡ f.changes - f.untried

abbrev pub is_illegal : Finding → Bool
is_illegal (finding.Illegal line fault) = true
is_illegal other = false

abbrev pub RepairsBy : Finding → Rules → (list : List (List ℕ)) → (text : List ℕ) → List Event → Option Walk → (most : ℕ) → Option Faulty → Type 0
RepairsBy (finding.Illegal line fault) rules list text written (Some walk) most (Some f) = RepairsIn rules list text written walk most f
RepairsBy (finding.Illegal line fault) rules list text written walk most answer = ⊥
RepairsBy other rules list text written walk most answer = answer ≡ None

abbrev pub RepairsOf : Result Entry ReadFault → Rules → (list : List (List ℕ)) → (text : List ℕ) → Option Walk → (most : ℕ) → Option Faulty → Type 0
RepairsOf (Ok entry) rules list text walk most answer = RepairsBy entry.finding rules list text entry.record.events walk most answer
RepairsOf (Err fault) rules list text walk most answer = answer ≡ None

-- the verdict of a case, what repairs its record if it is illegal, several changes that do, and what repairs its text if it is not a record
pub record IsRepairAnswer (rules : Rules) (list : List (List ℕ)) (case : Case) (most : ℕ) (answer : RepairAnswer) : Type 0 where
  pub verdict : answer.verdict ≡ case_verdict case.read
  pub repairs : RepairsOf case.read rules list case.text.items case.walk most answer.faulty
  pub chain : IsChainOf case.read rules list answer.chain
  pub of_line : RepairsOfLine case.read rules list case.text.items most answer.of_line
