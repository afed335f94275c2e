use Rattle.std.specs.Prelude.{All}
use Rattle.compare_repaired.specs.Repaired.{IsRepairedChoice}
use Rattle.compare_repaired.proofs.finding.tried_of.Given as goal

abbrev pub invariant-loop-reach : goal.invariant-loop-reach
invariant-loop-reach l = record { each : All (IsRepairedChoice l.rules l.list l.sheets) l.tried.items }
