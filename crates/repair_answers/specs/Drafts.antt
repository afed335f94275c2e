-- What `repair` answers of a draft.
use Rattle.std.specs.Prelude.{◌≡◌, ℕ, ◌-◌, ◌*◌, ◌≤◌, List, [], length, map, Option, Some, None, Result, Ok, Err}
use Rattle.ref_tiles.specs.declared.rulebook.Rules.{Rules}
use Rattle.gcg_read.specs.declared.events.Event.{Event}
use Rattle.gcg_read.specs.declared.faults.ReadFault.{ReadFault}
use Rattle.game_turns.specs.Unlisted.{letters_in}
use Rattle.game_case.specs.declared.entries.Entry.{Entry}
use Rattle.game_case.specs.declared.explains.Case.{Case}
use Rattle.game_case.specs.declared.findings.Finding.{Finding}
use Rattle.game_case.specs.declared.findings.Finding.TheVariants as finding
use Rattle.game_case.specs.Explaining.{case_verdict}
use Rattle.game_deal.specs.Verdicts.{IsGame}
use Rattle.game_walk.specs.Numbers.{numbers_in}
use Rattle.game_walk.specs.declared.walking.Walk.{Walk}
use Rattle.gcg_drafts.specs.declared.missing.Missing.{Missing}
use Rattle.repair_plays.specs.PlayChanges.{ArePlayChanges}
use Rattle.repair_single.specs.Remaining.{unlisted_words}
use Rattle.repair_single.specs.Weighers.{written_with}
use Rattle.repair_single.specs.Trying.{IsWritable}
use Rattle.repair_answers.specs.Alike.{is_like}
use Rattle.repair_answers.specs.Answers.{below_of}
use Rattle.repair_answers.specs.Lines.{AreLines, before_numbers}
use Rattle.repair_answers.specs.Trades.{AreReportedBy}
use Rattle.repair_answers.specs.Tried.{count_walked, count_untried, count_changes}
use Rattle.repair_answers.specs.Unchanged.{IsKnown}
use Rattle.repair_answers.specs.declared.numbers_alone.NumbersAlone.{NumbersAlone}
use Rattle.repair_answers.specs.declared.answers.Faulty.{Faulty}
use Rattle.repair_answers.specs.declared.answers.RepairAnswer.{RepairAnswer}
use Rattle.draft_numbers.specs.Numbers.{wrong_written}

-- What is wrong with a draft of which only written numbers are wrong.
pub record AreWrittenAlone (rules : Rules) (list : List (List ℕ)) (lacks : List Missing) (written : List Event) (alone : NumbersAlone) : Type 0 where
  pub right : List Event
  pub correction : IsWritable rules list written right
  pub numbers : alone.right.items ≡ map numbers_in right
  pub game : IsKnown alone.is_game rules list right
  pub wrong : alone.remains.wrong.items ≡ wrong_written lacks written (map numbers_in right)
  pub unlisted : letters_in alone.remains.unlisted.items ≡ unlisted_words rules list right

abbrev pub IsDraftUnchanged : Rules → (list : List (List ℕ)) → (lacks : List Missing) → (written : List Event) → Option NumbersAlone → Type 0
IsDraftUnchanged rules list lacks written (Some alone) = AreWrittenAlone rules list lacks written alone
IsDraftUnchanged rules list lacks written None = (right : List Event) → IsWritable rules list written right → IsGame rules list right → ⊥

-- What repairs a draft whose sheet is illegal: single changes, of the list and of plays. Pairs of changes, several changes one after the other and slips of
-- the whole sheet are not looked for.
pub record DraftRepairsIn (rules : Rules) (list : List (List ℕ)) (lacks : List Missing) (written : List Event) (walk : Walk) (most : ℕ) (f : Faulty) : Type 0 where
  pub alone : IsDraftUnchanged rules list lacks written f.alone
  pub plays : ArePlayChanges written walk f.plays.items
  pub repairs : AreReportedBy (written_with lacks) rules list written f.alone f.plays.items (below_of f.alone) f.found.from (27 * most) f.found.reported.items f.found.remaining.items
  pub lines : AreLines is_like f.found.reported.items most f.lines.items
  pub before : f.before_numbers ≡ before_numbers f.alone f.found.reported.items f.lines.items
  pub pairs : f.pairs.reported.items ≡ []
  pub pair_lines : f.pair_lines.items ≡ []
  pub sheets : f.sheets.items ≡ []
  pub all : count_walked rules written walk * length written ≤ 4000000 → f.found.from ≡ 0
  pub untried : f.untried ≡ count_untried rules written walk f.found.from
  pub changes : f.changes ≡ count_changes rules written walk f.plays.items
  pub tried : f.tried ≡ f.changes - f.untried

abbrev pub DraftRepairsBy : Finding → Rules → (list : List (List ℕ)) → (lacks : List Missing) → List Event → Option Walk → (most : ℕ) → Option Faulty → Type 0
DraftRepairsBy (finding.Illegal line fault) rules list lacks written (Some walk) most (Some f) = DraftRepairsIn rules list lacks written walk most f
DraftRepairsBy (finding.Illegal line fault) rules list lacks written walk most answer = ⊥
DraftRepairsBy other rules list lacks written walk most answer = answer ≡ None

abbrev pub DraftRepairsOf : Result Entry ReadFault → Rules → (list : List (List ℕ)) → (lacks : List Missing) → Option Walk → (most : ℕ) → Option Faulty → Type 0
DraftRepairsOf (Ok entry) rules list lacks walk most answer = DraftRepairsBy entry.finding rules list lacks entry.record.events walk most answer
DraftRepairsOf (Err fault) rules list lacks walk most answer = answer ≡ None

-- the verdict of the case of a draft's sheet, and what repairs the draft if that is illegal
pub record IsDraftAnswer (rules : Rules) (list : List (List ℕ)) (lacks : List Missing) (case : Case) (most : ℕ) (answer : RepairAnswer) : Type 0 where
  pub verdict : answer.verdict ≡ case_verdict case.read
  pub repairs : DraftRepairsOf case.read rules list lacks case.walk most answer.faulty
  pub chain : answer.chain ≡ None
  pub of_line : answer.of_line ≡ None
