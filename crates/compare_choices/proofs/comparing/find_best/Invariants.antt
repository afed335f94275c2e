use Rattle.compare_choices.specs.Finds.{IsFoundTo}
use Rattle.compare_choices.proofs.comparing.find_best.Given as goal

abbrev pub invariant-loop-choice : goal.invariant-loop-choice
invariant-loop-choice l = record { found : IsFoundTo l.rules l.list l.sheets l.choice l.found }
