use Rattle.compare_choices.specs.Comparisons.{IsFurthestTo}
use Rattle.compare_choices.proofs.comparing.furthest.Given as goal

abbrev pub invariant-loop-choice : goal.invariant-loop-choice
invariant-loop-choice l = record { stop : IsFurthestTo l.rules l.list l.sheets l.choice l.found }
