use Rattle.std.proofs.Common.{All}
use Rattle.explain_facts.specs.Moments.{moment_of}
use Rattle.explain_facts.specs.Facts.{IsTrue}
use Rattle.explain_facts.proofs.readings.report_blanks.Given as goal

abbrev pub invariant-loop-place : goal.invariant-loop-place
invariant-loop-place l = All (IsTrue (moment_of l.scene)) l.facts.items
