use Rattle.compare_choices.specs.Comparisons.{AreFlipsTo}
use Rattle.compare_choices.proofs.comparing.flips_of.Given as goal

abbrev pub invariant-loop-number : goal.invariant-loop-number
invariant-loop-number l = record { flips : AreFlipsTo l.rules l.list l.sheets l.choice l.number l.flips.items }
