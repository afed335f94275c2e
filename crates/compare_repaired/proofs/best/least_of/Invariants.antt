use Rattle.compare_repaired.specs.Least.{IsLeastTo}
use Rattle.compare_repaired.proofs.best.least_of.Given as goal

abbrev pub invariant-loop-index : goal.invariant-loop-index
invariant-loop-index l = record { least : IsLeastTo l.tried l.index l.least }
