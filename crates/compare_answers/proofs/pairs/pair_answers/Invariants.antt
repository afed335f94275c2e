use Rattle.compare_answers.specs.Pairs.{ArePairAnswersTo}
use Rattle.compare_answers.proofs.pairs.pair_answers.Given as goal

abbrev pub invariant-loop-index : goal.invariant-loop-index
invariant-loop-index l = record { answers : ArePairAnswersTo l.sheets l.comparison l.index l.answers.items }
