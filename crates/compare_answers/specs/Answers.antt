-- What is found of two sheets.
use Rattle.std.specs.Prelude.{◌≡◌, ℕ, List, Option}
use Rattle.ref_tiles.specs.declared.rulebook.Rules.{Rules}
use Rattle.gcg_read.specs.declared.records.Record.{Record}
use Rattle.compare_repaired.specs.Repaired.{best_choice, best_repair, AreRepaired}
use Rattle.compare_alignments.specs.declared.lacking.Lacks.{Lacks}
use Rattle.compare_choices.specs.declared.sheets.Sheets.{Sheets}
use Rattle.compare_choices.specs.Sheets.{AreSheets}
use Rattle.compare_choices.specs.Seats.{in_seats_of}
use Rattle.compare_choices.specs.Comparisons.{IsComparison}
use Rattle.compare_answers.specs.Agreements.{IsAgreement}
use Rattle.compare_answers.specs.Changed.{IsChanged}
use Rattle.compare_answers.specs.Counts.{AreCounts}
use Rattle.compare_answers.specs.Ends.{IsEndBy}
use Rattle.compare_answers.specs.Found.{why_not, right_events, IsMerged}
use Rattle.compare_answers.specs.Furthest.{IsStopAt}
use Rattle.compare_answers.specs.Pairs.{ArePairAnswers}
use Rattle.compare_answers.specs.declared.answers.ComparisonAnswer.{ComparisonAnswer}

-- What is found of two sheets: the best of all choices of their lines, or what repairs those that go furthest; whether they agree; how many differences
-- there are, and what the rules say of each; where the choice that goes furthest stops; how the game ends; and the merged record, or why there is none.
pub record IsFound (rules : Rules) (list : List (List ℕ)) (a : ComparisonAnswer) : Type 0 where
  pub compared : IsComparison rules list a.sheets a.comparison
  pub repaired : AreRepaired rules list a.sheets a.comparison.find a.repaired
  pub agreement : IsAgreement a.sheets a.comparison.find.best a.comparison.find.remaining.items a.agreement
  pub counts : AreCounts a.sheets.pairs.items a.counts
  pub pairs : ArePairAnswers a.sheets a.comparison a.pairs.items
  pub stop_at : IsStopAt a.sheets a.comparison.furthest a.stop_at
  pub changed : IsChanged a.sheets (best_choice a.repaired) (best_repair a.repaired) a.changed
  pub ends : IsEndBy a.sheets a.comparison.find.best a.repaired.best (best_repair a.repaired) a.end
  pub merged : IsMerged a.sheets.first.players (why_not a.comparison.find a.repaired) (right_events a.comparison.find.best (best_repair a.repaired)) a.merged

-- the same of these sheets
pub record IsAnswerOn (rules : Rules) (list : List (List ℕ)) (s : Sheets) (a : ComparisonAnswer) : Type 0 where
  pub sheets : a.sheets ≡ s
  pub found : IsFound rules list a

-- What is found of two records of one game: the players of the second are put in the seats of those of the first, if their names say so. If they are those
-- of drafts, these numbers are missing.
pub record IsComparisonAnswer (rules : Rules) (list : List (List ℕ)) (first second : Record) (lacks : Option Lacks) (a : ComparisonAnswer) : Type 0 where
  pub sheets : AreSheets first (in_seats_of first.players second) lacks a.sheets
  pub found : IsFound rules list a
