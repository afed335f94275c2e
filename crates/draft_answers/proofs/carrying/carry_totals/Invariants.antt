use Rattle.draft_answers.specs.KnownTotals.{AreKnownTo}
use Rattle.draft_answers.proofs.carrying.carry_totals.Given as goal

abbrev pub invariant-loop-place : goal.invariant-loop-place
invariant-loop-place l = AreKnownTo l.stop l.lacks l.initial.events l.events l.place
