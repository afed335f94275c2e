use Rattle.lex_check.specs.Stretches.{IsStretch}
use Rattle.test_lex.proofs.tests.checks.label_after.Given as goal

abbrev pub invariant-loop-label : goal.invariant-loop-label
invariant-loop-label l = IsStretch l.paths l.node
