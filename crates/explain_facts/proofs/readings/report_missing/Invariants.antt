use Rattle.std.proofs.Common.{All}
use Rattle.explain_facts.specs.Moments.{moment_of}
use Rattle.explain_facts.specs.Facts.{IsTrue}
use Rattle.explain_facts.proofs.readings.report_missing.Given as goal

abbrev pub invariant-loop-number : goal.invariant-loop-number
invariant-loop-number l = All (IsTrue (moment_of l.scene)) l.facts.items
