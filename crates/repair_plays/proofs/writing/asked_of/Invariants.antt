use Rattle.std.specs.Prelude.{⊤}
use Rattle.repair_plays.proofs.writing.asked_of.Given as goal

abbrev pub invariant-loop-scored : goal.invariant-loop-scored
invariant-loop-scored l = ⊤
