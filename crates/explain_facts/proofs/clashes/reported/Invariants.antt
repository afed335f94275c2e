use Rattle.std.proofs.Common.{take}
use Rattle.explain_facts.specs.Deals.{ArePartsOf}
use Rattle.explain_facts.proofs.clashes.reported.Given as goal

abbrev pub invariant-loop-place : goal.invariant-loop-place
invariant-loop-place l = ArePartsOf l.less.items (take l.place l.steps)
